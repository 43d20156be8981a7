-- `machine::run::list` meets its contract: a good script's image fits, and its listing is its run's. Assumes nothing.
use Rattle.script.specs.Header.Laws.{image_fits, memory_length}
use Rattle.machine.proofs.Runs.{good_listed, refused_listed}
use Rattle.std.proofs.Common.{sym, rules}
use Rattle.machine.proofs.run.list.Goals as goal

pub slice_bounds-mem-end : goal.slice_bounds-mem-end
slice_bounds-mem-end c = search (image_fits, rules)

pub slice_bounds-list_good-end : goal.slice_bounds-list_good-end
slice_bounds-list_good-end c = sym (search memory_length)

pub list_good-requires : goal.list_good-requires
list_good-requires c = search memory_length

pub returns-in-Err : goal.returns-in-Err
returns-in-Err c = search refused_listed

pub returns-in-Ok : goal.returns-in-Ok
returns-in-Ok c = search good_listed
