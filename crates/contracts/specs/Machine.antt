-- The machine: combined access, event step, run: two outcomes that a contract of `machine` admits coincide (`Settled.antt`).
use borrow.Fn.Read.{r_last, r_join}
use Rattle.contracts.specs.Settled.{Settled, SettledAs, Claim, 𝓛, mem, run}
use Rattle.contracts.specs.Words.{SameWords}
use Rattle.machine.specs.contracts as machine
use Rattle.machine.specs.Flat.{state_words, machine_at}

pub record Machine : Type 0 where
  pub new : Settled machine.state.Machine.new.ended (λ κs a r e. Claim ((machine.state.Machine.new.clauses 𝓛 mem run κs a).ensures tt r e) (r_last _))
  pub reset : Settled machine.state.Machine.reset.ended (λ κs a r e. Claim ((machine.state.Machine.reset.clauses 𝓛 mem run κs a).ensures tt r e) (r_last _))
  pub load : Settled machine.state.Machine.load.ended (λ κs a r e. Claim ((machine.state.Machine.load.clauses 𝓛 mem run κs a).ensures tt r e) (r_last _))
  pub fetch : Settled machine.state.Machine.fetch.ended (λ κs a r e. Claim ((machine.state.Machine.fetch.clauses 𝓛 mem run κs a).ensures tt r e) (r_last _))
  pub store : Settled machine.state.Machine.store.ended (λ κs a r e. Claim ((machine.state.Machine.store.clauses 𝓛 mem run κs a).ensures tt r e) (r_last _))
  pub step : Settled machine.state.Machine.step.ended (λ κs a r e. Claim ((machine.state.Machine.step.clauses 𝓛 mem run κs a).ensures tt r e) (r_last _))
  pub list : Settled machine.run.list.ended (λ κs a r e. Claim ((machine.run.list.clauses 𝓛 mem run κs a).ensures tt r e) (r_last _))
  pub list_whole : Settled machine.run.list_whole.ended (λ κs a r e. Claim ((machine.run.list_whole.clauses 𝓛 mem run κs a).ensures tt r e) (r_join _ _ (r_last _) (r_last _)))
  -- the last one, since its name is also that of the closed model's part which the others read
  pub run : Settled machine.state.Machine.run.ended (λ κs a r e. Claim ((machine.state.Machine.run.clauses 𝓛 mem run κs a).ensures tt r e) (r_join _ _ (r_last _) (r_join _ _ (r_last _) (r_join _ _ (r_last _) (r_last _)))))

-- where the machine's words stand
pub record MachineFlat : Type 0 where
  pub pack : SettledAs machine.flat.state.pack.ended (λ κs a r e. Claim ((machine.flat.state.pack.clauses 𝓛 mem run κs a).ensures tt r e) (r_last _)) (λ κs a. SameWords state_words machine_at a.0.now)
  pub unpack : Settled machine.flat.state.unpack.ended (λ κs a r e. Claim ((machine.flat.state.unpack.clauses 𝓛 mem run κs a).ensures tt r e) (r_last _))
  pub load : SettledAs machine.flat.access.load.ended (λ κs a r e. Claim ((machine.flat.access.load.clauses 𝓛 mem run κs a).ensures tt r e) (r_last _)) (λ κs a. SameWords state_words machine_at a.0.now)
  pub fetch : SettledAs machine.flat.access.fetch.ended (λ κs a r e. Claim ((machine.flat.access.fetch.clauses 𝓛 mem run κs a).ensures tt r e) (r_last _)) (λ κs a. SameWords state_words machine_at a.0.now)
  pub store : SettledAs machine.flat.access.store.ended (λ κs a r e. Claim ((machine.flat.access.store.clauses 𝓛 mem run κs a).ensures tt r e) (r_last _)) (λ κs a. SameWords state_words machine_at a.0.now)
  pub step : SettledAs machine.flat.event.step.ended (λ κs a r e. Claim ((machine.flat.event.step.clauses 𝓛 mem run κs a).ensures tt r e) (r_last _)) (λ κs a. SameWords state_words machine_at a.0.now)
  pub run : SettledAs machine.flat.run.run.ended (λ κs a r e. Claim ((machine.flat.run.run.clauses 𝓛 mem run κs a).ensures tt r e) (r_last _)) (λ κs a. SameWords state_words machine_at a.0.now)
