use Rattle.std.proofs.Common.{◌≡◌, false, true, sym, refl, ap, ◌∙◌, ap₂, subst}
use Rattle.trees.specs.Tree.{named}
use Rattle.trees.specs.Equal.{alike}
use Rattle.cells.specs.Layout.{root, kids}
use Rattle.cells.specs.Views.{tree}
use Rattle.walks.specs.CompareWalk.{IsFrame, IsUneven}
use Rattle.walks.proofs.HeadLaws.{not_leaf, sound_fits, children_apart, alike_named}
use Rattle.walks.proofs.CompareWalks.{unlike_are, uneven, framed, within_is, frame_less}
use Rattle.walks.proofs.ordering.meet.Goals as goal

pub returns-then-not-alike : goal.returns-then-not-alike
returns-then-not-alike g c =
    let t = tree c.args.x in
    let u = tree c.args.y in
    let m = g.R.LeafRule.means c.args.rule.now in
    let a : alike (root t) (root u) ≡ false = ap₂ alike (sym c.head.ensures) (sym c.head-2.ensures) ∙ sym c.if-not-alike.ensures in
    record {
      answer = λ n. within_is m n t u ∙ unlike_are m _ (root t) (kids t) (root u) (kids u) (not_leaf c.head.result.now (root t) c.in_default.not-Leaf-0 c.head.ensures) a;
      less = tt;
    }

pub frame_of-requires : goal.frame_of-requires
frame_of-requires g c =
    let t = tree c.args.x in
    let u = tree c.args.y in
    let a : alike (root t) (root u) ≡ true = ap₂ alike (sym c.head.ensures) (sym c.head-2.ensures) ∙ sym c.if-not-alike.ensures in
    λ n. children_apart (root u) u _ c.args.y.sane refl c.children-in_default.ensures.forest (sym (alike_named (root t) (root u) a) ∙ ap named (sym c.head.ensures) ∙ n)

pub returns-in-None : goal.returns-in-None
returns-in-None g c =
    let t = tree c.args.x in
    let u = tree c.args.y in
    let m = g.R.LeafRule.means c.args.rule.now in
    let a : alike (root t) (root u) ≡ true = ap₂ alike (sym c.head.ensures) (sym c.head-2.ensures) ∙ sym c.if-not-alike.ensures in
    let r : IsUneven (root t) c.children.result c.children-in_default.result = subst (λ h. IsUneven h c.children.result c.children-in_default.result) c.head.ensures c.in-None.ensures in
    record {
      answer = λ n.
          within_is m n t u
          ∙ uneven m n (root t) (kids t) (root u) (kids u) (not_leaf c.head.result.now (root t) c.in_default.not-Leaf-0 c.head.ensures) a (sound_fits t c.args.x.sane) (sound_fits u c.args.y.sane)
          c.children.result c.children-in_default.result c.children.ensures.forest c.children-in_default.ensures.forest r;
      less = tt;
    }

pub returns-in-Some : goal.returns-in-Some
returns-in-Some g c =
    let t = tree c.args.x in
    let u = tree c.args.y in
    let m = g.R.LeafRule.means c.args.rule.now in
    let fr = c.in-Some.frame in
    let a : alike (root t) (root u) ≡ true = ap₂ alike (sym c.head.ensures) (sym c.head-2.ensures) ∙ sym c.if-not-alike.ensures in
    let r : IsFrame (root t) c.children.result c.children-in_default.result fr = subst (λ h. IsFrame h c.children.result c.children-in_default.result fr) c.head.ensures c.in-Some.ensures in
    record {
      answer = λ n.
          within_is m n t u
          ∙ framed m n (root t) (kids t) (root u) (kids u) (not_leaf c.head.result.now (root t) c.in_default.not-Leaf-0 c.head.ensures) a (sound_fits t c.args.x.sane) (sound_fits u c.args.y.sane)
          c.children.result c.children-in_default.result c.children.ensures.forest c.children-in_default.ensures.forest fr r;
      less = frame_less (root t) t u c.children.result c.children-in_default.result fr c.children.ensures.forest c.children-in_default.ensures.forest r;
    }
