-- `script::header::copy_image` meets its contract. Assumes nothing.
use Rattle.script.proofs.Copies.{copied}
use Rattle.script.proofs.header.copy_image.Goals as goal

pub returns : goal.returns
returns c =
    copied c.args.s.now c.args.mem.now c.args.at c.min.result c.min-n.result _ _ _ c.min.ensures c.min-n.ensures c.copy_from_slice.ensures.after (c.fill.ensures.after (λ y e. e)) c.split_at_mut-image.ensures.back
