use Rattle.std.proofs.Common.{[], ◌∷◌, refl, subst}
use Rattle.trees.specs.declared.head.Head.{Head}
use Rattle.trees.specs.Tree.{node, empty}
use Rattle.shelf.specs.Holds.{IsLoose}
use Rattle.shelf.proofs.rack.Rack.plant.Goals as goal

pub returns : goal.returns
returns c s k h own shows none e =
    c.land.ensures s k (node h empty) (record {
      own = own;
      beside = record {
        shows = c.write.ensures.shows s shows;
        loose = subst (λ (v : Head). IsLoose c.write.new.self (record { label = []; head = v; children = 0 } ∷ [])) e c.write.ensures.loose;
      };
      empty = none;
      cells = refl;
    })
