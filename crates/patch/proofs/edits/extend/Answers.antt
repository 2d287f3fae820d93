use Rattle.std.proofs.Common.{ℕ, ◌+◌, ◌<◌, [], get_or, sym, refl, ap, ◌∙◌, arith, rules}
use Rattle.std.proofs.lemmas.Result.{MatchResult-weaker}
use Rattle.trees.specs.Tree.{node}
use Rattle.cells.specs.declared.types.Cell.{Cell}
use Rattle.trees.specs.declared.head.Head.TheVariants as value
use Rattle.cells.specs.Layout.{cell_of}
use Rattle.cells.proofs.Layouts.{length-encode, lies_count, count_size}
use Rattle.cells.proofs.Swaps.{count-add_last}
use Rattle.cells.proofs.Readings.{lies_stand_at}
use Rattle.patch.proofs.Spots.{ends_at, spot_target, spot_patch, spot_read, spot_used, extend_site, extended, refused_by, placed_site}
use Rattle.patch.proofs.edits.extend.Goals as goal
use Rattle.patch.proofs.edits.extend.Goals.{Start}

few : (c : Start) (d : Cell) → (get_or c.args.cells.now c.args.at.target d).children < c.args.used
few c d = let s = c.requires.placed.3.spot in omega (arith, lies_count d (spot_target s), count_size (node c.requires.placed.0 c.requires.placed.1), spot_used s)

pub overflow_add-cell : goal.overflow_add-cell
overflow_add-cell c =
    let n = few (goal.at.overflow_add-cell c).Start in
    let h = n (record { label = []; head = value.Leaf (record { tag = 0; value = 0 }); children = 0 }) in
    search rules

pub end_of-requires : goal.end_of-requires
end_of-requires c = let s = c.requires.placed.3.spot in lies_stand_at 16 (spot_patch s) s.patch_high

pub renew-requires : goal.renew-requires
renew-requires c =
    let s = c.requires.placed.3.spot in
    let e = c.requires.end _ (spot_target s) in
    placed_site c.requires.placed.3 _ _ (extend_site s _ _ refl (ends_at (spot_patch s) c.end_of.ensures) e e)

pub returns : goal.returns
returns c h f u o =
    let s = o.spot in
    let e = c.requires.end _ (spot_target s) in
    MatchResult-weaker c.renew.result (c.renew.ensures (placed_site o _ _ (extend_site s _ _ refl (ends_at (spot_patch s) c.end_of.ensures) e e)))
    (λ n r. extended s (record { start = 0; end = 0 }) (record { start = 0; end = 0 }) _ _ n
    (ap (λ (x : Cell). record { label = x.label; head = x.head; children = x.children + 1 }) (c.index-cells-at.is ∙ spot_read s _) ∙ ap (λ (x : ℕ). record { label = (cell_of o.label (node h f)).label; head = (cell_of o.label (node h f)).head; children = x }) (sym (count-add_last s.patch.label u f))) r)
    (λ e r. refused_by _ (length-encode s.patch.label u) r)
