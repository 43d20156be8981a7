-- `machine::flat::event::step_words` meets its contract. Assumes nothing.
use Rattle.machine.proofs.Events.{words_accessed, words_shown}
use Rattle.machine.proofs.flat.event.step_words.Goals as goal

pub returns-then-e-lt3 : goal.returns-then-e-lt3
returns-then-e-lt3 c = words_accessed _ _ _ _ _ _ _ _ c.if-e-lt3.true c.access_event-answer.ensures c.line_of.ensures

pub returns : goal.returns
returns c = words_shown _ _ _ _ _ _ c.if-e-lt3.false c.state_event.ensures
