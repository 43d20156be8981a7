-- Each contract is settled, by its shape (`Shapes.antt`).
use Rattle.std.proofs.Common.{true, false, refl, sym, ap, ◌∙◌, List, ℕ}
use mathlib.Core.Bool.{false≢true}
use Rattle.cache.specs.declared.CacheAccess.{CacheAccess}
use Rattle.contracts.proofs.Shapes.{answer, content, both, text, next}
use Rattle.contracts.proofs.Words.{same_words, words, beside, memory, two, pair, reads, pages_same, grants_same, access_same, step_same, run_same, open_words}
use Rattle.machine.specs.declared.flat.run.Listed.{Listed}
use Rattle.privilege.specs.declared.registers.SrWritten.{SrWritten}
use Rattle.privilege.specs.declared.trap.Returned.{Returned}
use Rattle.privilege.specs.declared.trap.Trapped.{Trapped}
use Rattle.contracts.specs.Libraries.{Contracts}
use Rattle.contracts.specs.Common.{Common}
use Rattle.contracts.specs.Layout.{Layout}
use Rattle.contracts.specs.Text.{Text}
use Rattle.contracts.specs.Digest.{Digest}
use Rattle.contracts.specs.Irqc.{Irqc}
use Rattle.contracts.specs.Cache.{Cache, CacheFlat}
use Rattle.contracts.specs.Memory.{Memory}
use Rattle.contracts.specs.Mmu.{Mmu, MmuFlat}
use Rattle.contracts.specs.Privilege.{Privilege, PrivilegeFlat}
use Rattle.contracts.specs.Tables.{Tables}
use Rattle.contracts.specs.Script.{Script}
use Rattle.contracts.specs.Listing.{Listing}
use Rattle.contracts.specs.Machine.{Machine, MachineFlat}
use Rattle.contracts.specs.Bridge.{Bridge, BridgeLent}
use Rattle.contracts.specs.Race.{Race}

common_settled : Common
common_settled = search answer

layout_settled : Layout
layout_settled = record { copy = record { coincide = content } }

text_settled : Text
text_settled = record {
  put_byte = record { coincide = text };
  put_bytes = record { coincide = text };
  put_hex = record { coincide = text };
  put_decimal = record { coincide = text };
}

digest_settled : Digest
digest_settled = search answer

irqc_settled : Irqc
irqc_settled = record {
  new = record { coincide = answer };
  reset = record { coincide = answer };
  pending = record { coincide = answer };
  enable_mask = record { coincide = answer };
  set_enable_mask = record { coincide = answer };
  set_source = record { coincide = answer };
  set_source_levels = record { coincide = answer };
  clear_pending = record { coincide = answer };
  irq_output = record { coincide = answer };
  read = record { coincide = answer };
  write = record { coincide = answer };
  lent_reset = record { coincide = content };
  lent_pending = record { coincide = answer };
  lent_enable_mask = record { coincide = answer };
  lent_set_enable_mask = record { coincide = content };
  lent_set_source = record { coincide = content };
  lent_set_source_levels = record { coincide = content };
  lent_clear_pending = record { coincide = content };
  lent_irq_output = record { coincide = answer };
  lent_read = record { coincide = answer };
  lent_write = record { coincide = content };
}

cache_settled : Cache
cache_settled = search answer

cache_flat_settled : CacheFlat
cache_flat_settled = record {
  load = record { agree = λ p q. words (λ e e'. two (λ (c : CacheAccess). c.cache) (λ (c : CacheAccess). c.stall) e e') p q };
  fetch = record { agree = λ p q. words (λ e e'. two (λ (c : CacheAccess). c.cache) (λ (c : CacheAccess). c.stall) e e') p q };
  store = record { agree = λ p q. words (λ e e'. (e ∙ sym e', refl)) p q };
  external_write = record { agree = λ p q. words (λ e e'. (e ∙ sym e', refl)) p q };
  read_reg = record { coincide = reads };
  write_reg = record { agree = λ p q. words (λ e e'. (e ∙ sym e', refl)) p q };
  reset = record { agree = λ p q. words (λ e e'. (e ∙ sym e', refl)) p q };
  pack = record { agree = λ p q. words (λ e e'. (e ∙ sym e', refl)) p q };
  unpack = record { coincide = reads };
}

memory_settled : Memory
memory_settled = record {
  good_range = record { coincide = answer };
  good_map = record { coincide = answer };
  admit = record { coincide = answer };
  read_byte = record { coincide = answer };
  read_word = record { coincide = answer };
  put_byte = record { coincide = both };
  read_half = record { coincide = answer };
  put_half = record { coincide = both };
  put_word = record { coincide = both };
}

mmu_settled : Mmu
mmu_settled = search answer

mmu_flat_settled : MmuFlat
mmu_flat_settled = record {
  check_pages = record { agree = λ p q. words (pages_same _) p q };
  grant_page = record { agree = λ p q. words (λ e e'. (e.1 ∙ sym e'.1, e.0 ∙ sym e'.0)) p q };
  frame_of = record { coincide = reads };
  flush = record { agree = λ p q. words (λ e e'. (e ∙ sym e', refl)) p q };
  invalidate = record { agree = λ p q. words (λ e e'. (e ∙ sym e', refl)) p q };
  pack = record { agree = λ p q. words (λ e e'. (e ∙ sym e', refl)) p q };
  unpack = record { coincide = reads };
}

privilege_settled : Privilege
privilege_settled = record {
  data_size = record { coincide = answer };
  translating = record { coincide = answer };
  allows = record { coincide = answer };
  check_access = record { coincide = answer };
  debug_translate = record { coincide = answer };
  tlb_entry = record { coincide = answer };
  grants = record { coincide = answer };
  field = record { coincide = answer };
  with_field = record { coincide = answer };
  write_field = record { coincide = answer };
  all_allowed = record { coincide = answer };
  region_field = record { coincide = answer };
  read_sr = record { coincide = answer };
  write_sr = record { coincide = answer };
  is_short = record { coincide = answer };
  mode_of = record { coincide = answer };
  new = record { coincide = answer };
  status = record { coincide = answer };
  with_status = record { coincide = answer };
  set_status = record { coincide = answer };
  join = record { coincide = answer };
  physical = record { coincide = answer };
  read_data = record { coincide = answer };
  write_data = record { coincide = λ p q. next (both p q) };
  swap_bank = record { coincide = answer };
  enter_trap = record { coincide = answer };
  leave_trap = record { coincide = answer };
  read_rows = record { coincide = answer };
  write_rows = record { coincide = both };
}

privilege_flat_settled : PrivilegeFlat
privilege_flat_settled = record {
  check_access = record { agree = λ p q. words (λ e e'. (pair e.1 e'.1 e.2 e'.2, e.0 ∙ sym e'.0)) p q };
  grant_word = record { agree = λ p q. words (grants_same _ _ _ _ _ _) p q };
  enter_trap = record { agree = λ p q. words (λ e e'. (ap (λ (t : Trapped). (t.sys, t.reg)) (e ∙ sym e'), refl)) p q };
  leave_trap = record { agree = λ p q. words (λ e e'. two (λ (t : Returned). (t.sys, t.reg)) (λ (t : Returned). record { epc = t.epc; mode = t.mode }) e e') p q };
  read_sr = record { coincide = reads };
  write_sr = record { agree = λ p q. words (λ e e'. two (λ (w : SrWritten). (w.sys, w.reg)) (λ (w : SrWritten). w.answer) e e') p q };
  physical = record { coincide = reads };
  set_reg = record { agree = λ p q. words (λ e e'. (pair e.0 e'.0 e.1 e'.1, refl)) p q };
  reset = record { agree = λ p q. words (λ e e'. (pair e.0 e'.0 e.1 e'.1, refl)) p q };
  pack = record { agree = λ p q. words (λ e e'. (pair e.0 e'.0 e.1 e'.1, refl)) p q };
  unpack = record { coincide = reads };
  unpack_reg = record { coincide = reads };
}

tables_settled : Tables
tables_settled = record {
  tables_write = record { coincide = both };
  good = record { coincide = answer };
  leaf = record { coincide = answer };
  good_list = record { coincide = answer };
  number = record { coincide = answer };
  write_tables = record { coincide = both };
}

script_settled : Script
script_settled = record {
  event_at = record { coincide = answer };
  header_of = record { coincide = answer };
  event_place = record { coincide = answer };
  copy_image = record { coincide = λ p q. next (next (content p q)) };
  new = record { coincide = λ p q i. (record { script = (p.0 ∙ sym q.0) i; at = (p.1 ∙ sym q.1) i }, (tt, (tt, tt))) };
  event = record { coincide = answer };
  next = record { coincide = λ p q i. (record { script = (p.0 ∙ sym q.0) i; at = (p.1 ∙ sym q.1) i }, (tt, tt)) };
  event_of = record { coincide = answer };
}

listing_settled : Listing
listing_settled = record {
  new = record { coincide = answer };
  put_line = record { coincide = text };
  put_end = record { coincide = text };
  put_refused = record { coincide = text };
}

machine_settled : Machine
machine_settled = record {
  new = record { coincide = answer };
  reset = record { coincide = answer };
  load = record { coincide = answer };
  fetch = record { coincide = answer };
  store = record { coincide = λ p q. next (both p q) };
  step = record { coincide = λ p q. next (both p q) };
  run = record {
    coincide = λ p q i.
        let machine = p.0 ∙ sym q.0 in
        let memory = p.1.0 ∙ sym q.1.0 in
        let listed = p.1.1.0 ∙ sym q.1.1.0 in
        let totals = p.1.1.1 ∙ sym q.1.1.1 in
        (record { machine = machine i; place = (listed i).1; totals = totals i }, (tt, (memory i, (tt, (tt, (tt, (tt, ((listed i).0, (tt, tt)))))))));
  };
  list = record { coincide = λ p q. next (text p q) };
  list_whole = record { coincide = λ p q. next (text p.0 q.0) };
}

machine_flat_settled : MachineFlat
machine_flat_settled = record {
  pack = record { agree = λ p q. words (λ e e'. (e ∙ sym e', refl)) p q };
  unpack = record { coincide = reads };
  load = record { agree = λ p q. beside access_same p q };
  fetch = record { agree = λ p q. beside access_same p q };
  store = record { agree = λ p q. memory access_same p q };
  step = record { agree = λ p q. memory step_same p q };
  run = record {
    agree = λ p q. same_words (λ (s : Listed × List ℕ × List ℕ). s.0) (λ (s : Listed × List ℕ × List ℕ). (s.1, (tt, (tt, (tt, (tt, (s.2, (tt, tt)))))))) run_same p q;
  };
}

bridge_settled : Bridge
bridge_settled = search answer

bridge_lent_settled : BridgeLent
bridge_lent_settled = record {
  machine_step = record { coincide = λ p q. next (both p q) };
  machine_list = record { coincide = λ p q. next (text p q) };
  machine_start = record { agree = λ p q. record { stand = p ∙ sym q; rest = refl } };
  machine_step_in = record {
    agree = λ p q. record { stand = p.1.0 ∙ sym q.1.0; rest = λ i. ((p.0 ∙ sym q.0) i, ((p.1.1 ∙ sym q.1.1) i, (tt, (tt, (tt, (tt, (tt, (tt, tt)))))))) };
  };
}

race_settled : Race
race_settled = record { race_run = record { coincide = both } }

pub all_settled : Contracts
all_settled = record {
  common = common_settled;
  layout = layout_settled;
  text = text_settled;
  digest = digest_settled;
  irqc = irqc_settled;
  cache = cache_settled;
  cache_flat = cache_flat_settled;
  memory = memory_settled;
  mmu = mmu_settled;
  mmu_flat = mmu_flat_settled;
  privilege = privilege_settled;
  privilege_flat = privilege_flat_settled;
  tables = tables_settled;
  script = script_settled;
  listing = listing_settled;
  machine = machine_settled;
  machine_flat = machine_flat_settled;
  bridge = bridge_settled;
  bridge_lent = bridge_lent_settled;
  race = race_settled;
  loose = λ κs a m settled. false≢true (λ i. (settled.coincide {κs = κs} {a = a} {r = false} {r' = true} {m = m} {m' = m} tt tt i).0);
  theorems = record { coincide = λ p q. refl };
  open_words = open_words;
}
