use Rattle.std.proofs.Common.{refl, ◌∙◌, ap₂}
use Rattle.std.proofs.lemmas.Result.{MatchResult-weaker}
use Rattle.cells.specs.declared.types.Cell.{Cell}
use Rattle.cells.proofs.Layouts.{length-encodes}
use Rattle.cells.proofs.Readings.{lies_stand_at}
use Rattle.patch.proofs.Spots.{ends_at, spot_target, spot_patch, spot_read, spot_patch_read, switch_site, switched, refused_by, placed_site}
use Rattle.patch.proofs.edits.switch.Goals as goal
use Rattle.patch.proofs.edits.switch.Goals.{Start}

pub end_of-requires : goal.end_of-requires
end_of-requires c = lies_stand_at 16 (spot_patch c.requires.4.spot) c.requires.4.spot.patch_high

pub end_of-requires-2 : goal.end_of-requires-2
end_of-requires-2 c = lies_stand_at 16 (spot_target c.requires.4.spot) c.requires.4.spot.high

pub renew-requires : goal.renew-requires
renew-requires c =
    let s = c.requires.4.spot in
    placed_site c.requires.4 _ _ (switch_site s _ _ refl (ends_at (spot_patch s) c.end_of.ensures) refl (ends_at (spot_target s) c.end_of-2.ensures))

pub returns : goal.returns
returns c h k f g o =
    let s = o.spot in
    MatchResult-weaker c.renew.result (c.renew.ensures (placed_site o _ _ (switch_site s _ _ refl (ends_at (spot_patch s) c.end_of.ensures) refl (ends_at (spot_target s) c.end_of-2.ensures))))
    (λ n r. switched s (record { start = 0; end = 0 }) (record { start = 0; end = 0 }) _ _ n (ap₂ (λ (x y : Cell). record { label = x.label; head = y.head; children = y.children }) (c.index-cells-at.is ∙ spot_read s _) (c.index-cells-at-2.is ∙ spot_patch_read s _)) r)
    (λ e r. refused_by _ (length-encodes g) r)
