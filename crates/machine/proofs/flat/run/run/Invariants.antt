-- `machine::flat::run::run` meets its contract. The loop's invariant: the whole run is what is left of it from here, on the machine of the
-- words. Assumes nothing.
use Rattle.std.proofs.Common.{◌≡◌, ◌+◌, ◌*◌, ◌^◌, ◌<◌, length}
use Rattle.machine.specs.Flat.{state_words, machine_at}
use Rattle.machine.proofs.Runs.{Going, whole, text}
use Rattle.machine.proofs.flat.run.run.Given as goal

abbrev pub invariant-loop-k : goal.invariant-loop-k
invariant-loop-k l =
    Going l.count l.script l.first l.base (whole l.count l.script l.first l.base l.initial.state l.initial.mem l.initial.out l.at) (text l.count l.script l.first l.base l.initial.state l.initial.mem l.initial.out l.at) l.k (machine_at l.state) l.mem l.out l.place l.totals
    × (length l.mem ≡ length l.initial.mem)
    × (length l.out ≡ length l.initial.out)
    × (l.count < 2 ^ 32)
    × (l.first < 2 ^ 32)
    × (l.from ≡ l.first + 12 * l.k)
    × (length l.state ≡ length l.initial.state)
    × (length l.initial.state ≡ state_words)
