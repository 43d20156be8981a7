-- `inspection::show_script` is safe: a good script's image fits the memory.
use Rattle.std.proofs.Common.{rules, sym}
use Rattle.script.specs.Header.Laws.{image_fits, memory_length}
use Rattle.inspection.proofs.show_script.Goals as goal

pub slice_bounds-mem-end : goal.slice_bounds-mem-end
slice_bounds-mem-end g c = search (image_fits, rules)

pub slice_bounds-show_good-end : goal.slice_bounds-show_good-end
slice_bounds-show_good-end g c = sym (search memory_length)
