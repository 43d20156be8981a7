-- Every contract of the libraries, crate by crate: any two outcomes that it admits for one input coincide (`Settled.antt`).
use Rattle.std.specs.Prelude.{◌≡◌, length}
use borrow.Fn.Read.{r_last}
use contract.Lifetimes.{Lfts}
use denote.Triple.Clauses.{Lasts}
use denote.Triple.Entry.{Args}
use Rattle.memory.specs.contracts.put_byte
use Rattle.mmu.specs.Flat.{vm_words}
use Rattle.mmu.specs.contracts.flat.flush
use Rattle.contracts.specs.Settled.{Settled, theorem, Claim, 𝓛, mem, run}
use Rattle.contracts.specs.Common.{Common}
use Rattle.contracts.specs.Layout.{Layout}
use Rattle.contracts.specs.Text.{Text}
use Rattle.contracts.specs.Digest.{Digest}
use Rattle.contracts.specs.Irqc.{Irqc}
use Rattle.contracts.specs.Cache.{Cache, CacheFlat}
use Rattle.contracts.specs.Memory.{Memory}
use Rattle.contracts.specs.Mmu.{Mmu, MmuFlat}
use Rattle.contracts.specs.Privilege.{Privilege, PrivilegeFlat}
use Rattle.contracts.specs.Tables.{Tables}
use Rattle.contracts.specs.Script.{Script}
use Rattle.contracts.specs.Listing.{Listing}
use Rattle.contracts.specs.Machine.{Machine, MachineFlat}
use Rattle.contracts.specs.Bridge.{Bridge, BridgeLent}
use Rattle.contracts.specs.Race.{Race}

pub record Contracts : Type 0 where
  pub common : Common
  pub layout : Layout
  pub text : Text
  pub digest : Digest
  pub irqc : Irqc
  pub cache : Cache
  pub cache_flat : CacheFlat
  pub memory : Memory
  pub mmu : Mmu
  pub mmu_flat : MmuFlat
  pub privilege : Privilege
  pub privilege_flat : PrivilegeFlat
  pub tables : Tables
  pub script : Script
  pub listing : Listing
  pub machine : Machine
  pub machine_flat : MachineFlat
  pub bridge : Bridge
  pub bridge_lent : BridgeLent
  pub race : Race
  -- a function that only promises, as `meaning`: already the contract that says nothing admits one outcome
  pub theorems : Settled theorem (λ κs a r e. Unit {0})
  -- the statement has content: a contract that says nothing of `put_byte` is not settled
  pub loose :
      (κs : Lfts 1) (a : Args (put_byte.ended).signature κs) →
      Lasts put_byte.ended κs a →
      ¬ (Settled put_byte.ended (λ κs a r e. Unit {0}))
  -- `SettledAs` is needed: a flush of 69 words fixes what they stand for, and not the words
  pub open_words : (κs : Lfts 1) (a : Args (flush.ended).signature κs) → length a.0.now ≡ vm_words → ¬ (Settled flush.ended (λ κs a r e. Claim ((flush.clauses 𝓛 mem run κs a).ensures tt r e) (r_last _)))
