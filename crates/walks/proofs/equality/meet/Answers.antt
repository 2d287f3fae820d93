use Rattle.std.proofs.Common.{◌≡◌, false, true, ◌&&◌, eqb, sym, refl, ap, ◌∙◌, ap₂, subst, ne_eqb}
use Rattle.trees.specs.Tree.{count, named}
use Rattle.trees.specs.Equal.{alike}
use Rattle.cells.specs.Layout.{root, kids}
use Rattle.cells.specs.Views.{tree}
use Rattle.walks.specs.EqualWalk.{IsFrameOf}
use Rattle.walks.proofs.HeadLaws.{not_leaf, sound_fits, children_apart, alike_named}
use Rattle.walks.proofs.EqualWalks.{unlike_are, framed, within_is, frame_less}
use Rattle.walks.proofs.equality.meet.Goals as goal
use Rattle.walks.proofs.equality.meet.Goals.{then-not-alike-via-then-not-alike, then-not-alike-via-else-not-alike+then-len}

pub returns-then-not-alike : goal.returns-then-not-alike
returns-then-not-alike g c =
    let t = tree c.args.x in
    let u = tree c.args.y in
    let a : c.alike.result ≡ alike (root t) (root u) = c.alike.ensures ∙ ap₂ alike c.head.ensures c.head-2.ensures in
    let q : (alike (root t) (root u) && eqb (count (kids t)) (count (kids u))) ≡ false =
    elim c.then-not-alike.branch [
      | then-not-alike-via-then-not-alike w ↦ ap (λ b. b && eqb (count (kids t)) (count (kids u))) (sym a ∙ w.if-not-alike.true)
      | then-not-alike-via-else-not-alike+then-len w ↦
          ap₂ ◌&&◌ (sym a ∙ w.if-not-alike.false) (ne_eqb _ _ (λ e. w.if-len.true (w.len.ensures ∙ ap count c.children-ours.ensures.forest ∙ e ∙ sym (w.len-else-not-alike.ensures ∙ ap count c.children-theirs.ensures.forest))))
    ] in
    record {
      answer = λ n. within_is (g.R.LeafRule.means c.args.rule.now) n t u ∙ unlike_are (g.R.LeafRule.means c.args.rule.now) _ (root t) (kids t) (root u) (kids u) (not_leaf c.head.result.now (root t) c.in_default.not-Leaf-0 c.head.ensures) q;
      less = tt;
    }

pub frame_of-requires : goal.frame_of-requires
frame_of-requires g c =
    let t = tree c.args.x in
    let u = tree c.args.y in
    let a : alike (root t) (root u) ≡ true = ap₂ alike (sym c.head.ensures) (sym c.head-2.ensures) ∙ sym c.if-not-alike.ensures in
    record {
      ours = children_apart _ t _ c.args.x.sane c.head.ensures c.children-ours.ensures.forest;
      theirs = λ n. children_apart (root u) u _ c.args.y.sane refl c.children-theirs.ensures.forest (sym (alike_named (root t) (root u) a) ∙ ap named (sym c.head.ensures) ∙ n);
    }

pub returns-else-len : goal.returns-else-len
returns-else-len g c =
    let t = tree c.args.x in
    let u = tree c.args.y in
    let a : alike (root t) (root u) ≡ true = ap₂ alike (sym c.head.ensures) (sym c.head-2.ensures) ∙ sym c.if-not-alike.ensures in
    let k : count (kids t) ≡ count (kids u) = ap count (sym c.children-ours.ensures.forest) ∙ sym c.len.ensures ∙ c.if-len.false ∙ c.len-else-not-alike.ensures ∙ ap count c.children-theirs.ensures.forest in
    let r : IsFrameOf (root t) c.children-ours.result c.children-theirs.result c.frame_of.result = subst (λ h. IsFrameOf h c.children-ours.result c.children-theirs.result c.frame_of.result) c.head.ensures c.frame_of.ensures in
    record {
      answer = λ n.
          within_is (g.R.LeafRule.means c.args.rule.now) n t u
          ∙ framed (g.R.LeafRule.means c.args.rule.now) _ (root t) (kids t) (root u) (kids u) c.children-ours.result c.children-theirs.result c.frame_of.result (not_leaf c.head.result.now (root t) c.in_default.not-Leaf-0 c.head.ensures)
          (sound_fits t c.args.x.sane) k a c.children-ours.ensures.forest c.children-theirs.ensures.forest r;
      less = frame_less (root t) t u c.children-ours.result c.children-theirs.result c.frame_of.result c.children-ours.ensures.forest c.children-theirs.ensures.forest r;
    }
