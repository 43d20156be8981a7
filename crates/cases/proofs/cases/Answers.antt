-- `cases::cases` holds: what a row leaves open stays a variable, and the rest is computed from the parts' definitions. Assumes nothing.
use Rattle.std.proofs.Common.{◌≡◌, ℕ, List, Some, Ok, Err, refl, ap, arith, get_or-set_same}
use Rattle.cache.specs.Bank.{drop_lines, swept}
use Rattle.cache.specs.Cache.{external_written}
use Rattle.common.specs.Bits.{bit_set}
use Rattle.common.specs.Refusal.{refusal_number}
use Rattle.irqc.specs.Irqc.{lowest_from}
use Rattle.memory.specs.Memory.{Memory}
use Rattle.mmu.specs.Exception.{cause_of}
use Rattle.mmu.specs.Vm.Laws.{flushed_is}
use Rattle.mmu.specs.Walk.{table_ok, leaf_ok, leaf_entry, answered, walk_leaf, walk_table, walk_of}
use Rattle.mmu.specs.Walk.Laws.{walk_two}
use Rattle.mmu.specs.declared.vm.Vm.{Vm}
use Rattle.mmu.specs.declared.walk.WalkFault.TheVariants.{Missing}
use Rattle.privilege.specs.Corners.{read_back}
use Rattle.privilege.specs.Region.{field_of, with_field}
use Rattle.privilege.specs.Registers.{region_field, sr_read, sr_written, vm_ptbr}
use Rattle.privilege.specs.State.{no_region, status_of}
use Rattle.privilege.specs.Trap.{returned}
use Rattle.privilege.specs.declared.region.Region.{Region}
use Rattle.privilege.specs.declared.state.SystemState.{SystemState}
use Rattle.cases.specs.Cases.{Cases, Eight, Leads, resident}
use Rattle.cases.proofs.Regions.{p6_allowed, p6_denied, p7_allowed, p7_denied, p7_fetch}
use Rattle.cases.proofs.cases.Goals as goal

-- region 7 has its flags back, masked
flags_back : (s : SystemState) (reg : List ℕ) → Eight s → read_back s reg 0x2E 0xFF ≡ Ok 7
unfolding sr_read sr_written region_field field_of with_field
flags_back s reg h = ap (λ (g : Region). Ok g.flags) (get_or-set_same s.regions 7 _ no_region (omega arith))

module _ (m : Memory) (ptbr va : ℕ) where
  write_alone : Leads m ptbr va 0x3005 → walk_of m ptbr va ≡ answered (Err Missing) 2
  unfolding walk_leaf leaf_ok bit_set
  write_alone l = walk_two m ptbr va l.table l.first (Some 0x3005) l.followed l.second

  readable : Leads m ptbr va 0x3013 → walk_of m ptbr va ≡ answered (Ok (resident va 3 0x12)) 2
  unfolding walk_leaf leaf_ok leaf_entry bit_set
  readable l = walk_two m ptbr va l.table l.first (Some 0x3013) l.followed l.second

table : Cases
unfolding bit_set refusal_number lowest_from drop_lines swept external_written cause_of table_ok walk_table walk_of region_field sr_read sr_written status_of returned
table =
    record {
      p1 = λ reg. refl;
      p2 = λ s reg. ap (λ (vm : Vm). Ok vm.ptbr) (flushed_is (vm_ptbr s.vm 0x1000));
      p3 = (λ s reg. (refl, λ v. refl), flags_back, λ s reg. (refl, λ v. refl), λ s reg. (refl, λ v. refl), refl);
      p4 = refl;
      p5 = λ addr. refl;
      p6 = λ m s n d h. (p6_allowed m s d n h, p6_denied m s d n h);
      p7 =
          λ m s n d h.
          let f = p7_fetch m s d n h in
          (λ k legal. (p7_allowed m s d n h k legal, p7_denied m s d k legal), f.0, f.1, f.2);
      p8 = λ m ptbr va. (write_alone m ptbr va, readable m ptbr va);
      p9 = λ m ptbr va h. rw h;
      p10 = λ level. (refl, refl, refl);
      p11 = λ c. (refl, refl);
      p12 = λ s reg user pu. rw (user, pu);
    }

pub returns : goal.returns
returns c = table
