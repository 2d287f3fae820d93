use Rattle.std.proofs.Common.{refl}
use Rattle.std.proofs.lemmas.Result.{err_from_is_err_and}
use Rattle.patch.proofs.Meetings.{placed, take_stops, take_done, kinds_ended, nothing_met, switch_over, switch_ended, pair_met}
use Rattle.patch.proofs.Spots.{spot_patch}
use Rattle.patch.proofs.steps.Walk.lay_node.Goals as goal

pub returns-in_err-q-clause-comes : goal.returns-in_err-q-clause-comes
returns-in_err-q-clause-comes c =
    let w = err_from_is_err_and c.from_residual.result c.from_residual.ensures.1 in
    rw (w.1, w.2) (λ k s. take_stops k.base k.name _ c.args.at _ _ k.outcome s _ c.in-Leaf.p _ c.in-Leaf.is (c.in_err-q.ensures _ (spot_patch (placed k c.args.self.now c.args.at s).spot)))

pub returns-in-Leaf-clause-comes : goal.returns-in-Leaf-clause-comes
returns-in-Leaf-clause-comes c k s = take_done k.base k.name _ c.args.at _ _ k.outcome s _ _ c.in-Leaf.p _ c.in-Leaf.is (c.in_ok-q.ensures _ (spot_patch (placed k c.args.self.now c.args.at s).spot))

pub returns-in_err-same_kind : goal.returns-in_err-same_kind
returns-in_err-same_kind c =
    let w = err_from_is_err_and c.from_residual-in_err-same_kind.result c.from_residual-in_err-same_kind.ensures.1 in
    rw (w.1, w.2) (record {
      comes = λ k s. kinds_ended k.base k.name _ c.args.at _ _ k.outcome s _ c.in_default.not-Leaf _ _ _ c.in_err-same_kind.ensures;
      keeps = record { stack = refl; lent = refl };
    })

pub switch-requires : goal.switch-requires
switch-requires c = (_, _, _, _, placed c.requires.0 c.args.self.now c.args.at c.requires.1)

pub returns-in_err-self-in-Switch : goal.returns-in_err-self-in-Switch
returns-in_err-self-in-Switch c =
    let w = err_from_is_err_and c.from_residual-in_err-self-in-Switch.result c.from_residual-in_err-self-in-Switch.ensures.1 in
    rw (w.1, w.2) (record {
      comes = λ k s. switch_ended k.base k.name _ c.args.at _ _ k.outcome s _ c.in_default.not-Leaf _ _ c.in_ok-same_kind.ensures _ c.manner_of.ensures c.in-Switch.is _ _
          (c.in_err-self-in-Switch.ensures _ _ _ _ (placed k c.args.self.now c.args.at s));
      keeps = record { stack = refl; lent = refl };
    })

pub returns-in_ok-self-in-Switch : goal.returns-in_ok-self-in-Switch
returns-in_ok-self-in-Switch c =
    record {
      comes = λ k s. switch_over k.base k.name _ c.args.at _ _ k.outcome s _ c.in_default.not-Leaf _ _ c.in_ok-same_kind.ensures _ c.manner_of.ensures c.in-Switch.is _ _
          (c.in_ok-self-in-Switch.ensures _ _ _ _ (placed k c.args.self.now c.args.at s));
      keeps = record { stack = refl; lent = refl };
    }

pub returns-in-Nothing : goal.returns-in-Nothing
returns-in-Nothing c =
    record {
      comes = λ k s. nothing_met k.base k.name _ c.args.at _ _ k.outcome s _ c.in_default.not-Leaf _ _ c.in_ok-same_kind.ensures _ c.manner_of.ensures c.in-Nothing.is;
      keeps = record { stack = refl; lent = refl };
    }

pub returns-in-Pair : goal.returns-in-Pair
returns-in-Pair c =
    record {
      comes = λ k s. pair_met k.base k.name _ c.args.at _ _ k.outcome s _ c.in_default.not-Leaf _ _ c.in_ok-same_kind.ensures _ c.manner_of.ensures c.in-Pair.pairing _ _ c.in-Pair.is;
      keeps = record { stack = refl; lent = refl };
    }

pub taken_leaf-requires : goal.taken_leaf-requires
taken_leaf-requires c = (_, spot_patch (placed c.requires.0 c.args.self.now c.args.at c.requires.1).spot)
