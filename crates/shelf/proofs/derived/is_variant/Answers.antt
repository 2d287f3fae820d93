use Rattle.std.proofs.Common.{◌≡◌, ◌+◌, eqb, sym, ap, ◌∙◌, not}
use Rattle.trees.specs.Codes.{variant_number}
use Rattle.trees.specs.declared.head.Head.TheVariants.{Enum as enum}
use Rattle.trees.specs.Tree.{code}
use Rattle.cells.specs.Layout.{root}
use Rattle.trees.specs.Tests.{node_at, is_enum}
use Rattle.shelf.specs.Derived.{code_of}
use Rattle.shelf.proofs.Spots.{at_node, at_head}
use Rattle.shelf.proofs.Answered.{asked_done, code_root, unfit_root, enum_fit, same_codes, code_enum}
use Rattle.shelf.proofs.States.{held}
use Rattle.shelf.proofs.derived.is_variant.Goals as goal

pub returns-in-Enum : goal.returns-in-Enum
returns-in-Enum c =
    let s = c.args.shelf.now in
    let h = held c.shelf.invariant c.shelf.view_is in
    let w = c.in_ok-spot.ensures.stands s h in
    let v = c.in-Enum.own in
    let n = c.in-Enum.name in
    let i = c.in-Enum.index in
    let e : enum v n i ≡ root w.1.goal = sym c.in-Enum.is ∙ at_head h w.1 in
    let k : code_of (node_at s c.args.slot c.args.path.now) ≡ 4 + variant_number v = code_root (at_node h w.1) ∙ ap code (sym e) ∙ code_enum v n i in
    asked_done s c.args.slot c.args.path.now c.args.kind _ w.0 (unfit_root is_enum (at_node h w.1) ∙ ap (λ x. not (is_enum x)) (sym e) ∙ ap not (enum_fit v n i))
    (c.same_variant.ensures ∙ ap (λ q. eqb (variant_number q) (variant_number c.args.kind)) c.in-Enum.own-is ∙ same_codes v c.args.kind ∙ ap (λ n. eqb n (4 + variant_number c.args.kind)) (sym k))
