-- The privilege state and R0 to R31 as C has them: an enum does not cross, nor does an array of structs.
--
--   regions_of starts ends flags   == the eight regions that the numbers of three lists make
--   starts_of, ends_of, flags_of l == START, END and FLAGS of eight regions
--   state_of p                     == the privilege state that has crossed
--   state_numbers s reg            == a privilege state and the registers, ready to cross
--   translated_numbers t           == a debugger's translation
--   view_numbers v                 == one slot's view
use Rattle.std.specs.Prelude.{ℕ, Bool, true, false, List, [], ◌∷◌, get_or, Result, Ok, Err}
use Rattle.common.specs.Refusal.{refusal_number}
use Rattle.privilege.specs.State.{is_short, mode_of, no_region}
use Rattle.common.specs.declared.Refusal.{Refusal}
use Rattle.privilege.specs.declared.debug.DebugTranslation.TheVariants.{Mapped, Unmapped, BusError}
use Rattle.privilege.specs.declared.debug.DebugTranslation.{DebugTranslation}
use Rattle.privilege.specs.declared.debug.TlbEntryView.{TlbEntryView}
use Rattle.privilege.specs.declared.debug.TlbFlags.{TlbFlags}
use Rattle.privilege.specs.declared.region.Region.{Region}
use Rattle.privilege.specs.declared.state.SystemState.{SystemState}
use Rattle.bridge.specs.declared.privilege_calls.PrivilegeSlot.{PrivilegeSlot}
use Rattle.bridge.specs.declared.privilege_calls.PrivilegeState.{PrivilegeState}
use Rattle.bridge.specs.declared.privilege_calls.PrivilegeTranslated.{PrivilegeTranslated}

abbrev pub region_at : List ℕ → List ℕ → List ℕ → ℕ → Region
region_at starts ends flags i = record { start = get_or starts i 0; end = get_or ends i 0; flags = get_or flags i 0 }

-- the eight elements of a list, each by a function
abbrev pub eight : {A : Type 0} → (ℕ → A) → List A
eight f = f 0 ∷ f 1 ∷ f 2 ∷ f 3 ∷ f 4 ∷ f 5 ∷ f 6 ∷ f 7 ∷ []

abbrev pub regions_of : List ℕ → List ℕ → List ℕ → List Region
regions_of starts ends flags = eight (region_at starts ends flags)

abbrev pub starts_of : List Region → List ℕ
starts_of l = eight (λ (i : ℕ). (get_or l i no_region).start)

abbrev pub ends_of : List Region → List ℕ
ends_of l = eight (λ (i : ℕ). (get_or l i no_region).end)

abbrev pub flags_of : List Region → List ℕ
flags_of l = eight (λ (i : ℕ). (get_or l i no_region).flags)

unfoldable pub state_of : PrivilegeState → SystemState
state_of p =
    record {
      ie = p.ie;
      pie = p.pie;
      user = p.user;
      pu = p.pu;
      psm = mode_of p.short;
      epc = p.epc;
      cause = p.cause;
      other_bank = p.other_bank;
      regions = regions_of p.starts p.ends p.flags;
      vm = p.vm;
    }

unfoldable pub state_numbers : SystemState → List ℕ → PrivilegeState
state_numbers s reg =
    record {
      ie = s.ie;
      pie = s.pie;
      user = s.user;
      pu = s.pu;
      short = is_short s.psm;
      epc = s.epc;
      cause = s.cause;
      other_bank = s.other_bank;
      starts = starts_of s.regions;
      ends = ends_of s.regions;
      flags = flags_of s.regions;
      vm = s.vm;
      reg = reg;
    }

abbrev pub unmapped : ℕ → Bool → PrivilegeTranslated
unmapped refusal busError =
    record {
      refusal = refusal;
      bus_error = busError;
      mapped = false;
      in_tlb = false;
      read = false;
      write = false;
      execute = false;
      user = false;
      physical = 0;
    }

abbrev pub mapped_numbers : ℕ → TlbFlags → Bool → PrivilegeTranslated
mapped_numbers physical flags inTlb =
    record {
      refusal = 0;
      bus_error = false;
      mapped = true;
      in_tlb = inTlb;
      read = flags.read;
      write = flags.write;
      execute = flags.execute;
      user = flags.user;
      physical = physical;
    }

unfoldable pub translated_numbers : Result DebugTranslation Refusal → PrivilegeTranslated
translated_numbers (Ok (Mapped physical flags inTlb)) = mapped_numbers physical flags inTlb
translated_numbers (Ok Unmapped) = unmapped 0 false
translated_numbers (Ok BusError) = unmapped 0 true
translated_numbers (Err r) = unmapped (refusal_number r) false

unfoldable pub view_numbers : TlbEntryView → PrivilegeSlot
view_numbers v =
    record {
      index = v.index;
      valid = v.valid;
      virtual_page = v.virtual_page;
      physical_page = v.physical_page;
      read = v.flags.read;
      write = v.flags.write;
      execute = v.flags.execute;
      user = v.flags.user;
    }
