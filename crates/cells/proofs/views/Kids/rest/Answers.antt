use Rattle.std.proofs.Common.{sym, ap, ◌∙◌}
use Rattle.cells.specs.Reading.{behind}
use Rattle.cells.proofs.Viewed.{trails_all}
use Rattle.cells.proofs.views.Kids.rest.Goals as goal

pub returns-in-Some : goal.returns-in-Some
returns-in-Some c = record { forest = sym (ap (behind 1) c.in-Some.ensures.split); behind = c.in-Some.ensures.behind }

pub returns-in-None : goal.returns-in-None
returns-in-None c = let e = c.in-None.ensures.split in record { forest = e ∙ sym (ap (behind 1) e); behind = trails_all c.args.self }
