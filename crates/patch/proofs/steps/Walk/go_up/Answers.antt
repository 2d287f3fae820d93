use Rattle.std.proofs.Common.{◌<◌, length, refl, ap, arith, rules}
use Rattle.patch.specs.declared.frames.Frame.{Frame}
use Rattle.patch.specs.Walk.{frames_of}
use Rattle.patch.proofs.Ups as up
use Rattle.patch.proofs.Ranks.{up_falls, close_falls}
use Rattle.patch.proofs.steps.Walk.go_up.Goals as goal
use Rattle.patch.proofs.steps.Walk.go_up.Goals.{In-ByName, in-ByName, in_default}

pub longer-requires : goal.longer-requires
longer-requires c =
    let k = c.requires.0 in
    let h = (up.both_few k.base k.name c.args.frame _ c.args.ends _ _ k.outcome c.requires.1).0 in
    search rules

pub longer-requires-then-is_last : goal.longer-requires-then-is_last
longer-requires-then-is_last c =
    let k = c.requires.0 in
    let h = (up.both_few k.base k.name c.args.frame _ c.args.ends _ _ k.outcome c.requires.1).1 in
    omega arith

pub returns-then-is_last-clause-comes : goal.returns-then-is_last-clause-comes
returns-then-is_last-clause-comes c k s = rw (c.longer.ensures, c.longer-then-is_last.ensures) (up.closes k.base k.name c.args.frame _ c.args.ends _ _ k.outcome s c.if-is_last.ensures)

pub returns-then-is_last-clause-falls : goal.returns-then-is_last-clause-falls
returns-then-is_last-clause-falls c =
    let k = c.requires.0 in
    let few = up.few_left k.base k.name c.args.frame _ c.args.ends _ _ k.outcome c.requires.1 in
    close_falls 65535 c.args.ends c.args.ends c.args.frame (frames_of c.args.self.now) _ refl few.1

-- the patch's next child is in the cells
here : (c : In-ByName) → c.end_of_row-next.result < length c.args.self.now.cells.now
here c =
    let k = c.requires.0 in
    let u = up.next_child k.base k.name c.args.frame _ c.args.ends _ _ k.outcome c.requires.1 c.if-is_last.ensures in
    omega (arith, u.1.begins, c.end_of_row-next.ensures _ (up.patch_end k.base k.name c.args.frame _ c.args.ends _ _ k.outcome c.requires.1))

pub offset_bounds-self-next : goal.offset_bounds-self-next
offset_bounds-self-next c = let h = here c in search rules

pub bounds-self-next : goal.bounds-self-next
bounds-self-next c = here c

pub row_by_name-row-requires : goal.row_by_name-row-requires
row_by_name-row-requires c =
    let k = c.requires.0 in
    (_, up.child_passed k.base k.name c.args.frame _ c.args.ends _ _ k.outcome c.requires.1)

pub row_behind-row-requires : goal.row_behind-row-requires
row_behind-row-requires c =
    let k = c.requires.0 in
    (_, up.child_passed k.base k.name c.args.frame _ c.args.ends _ _ k.outcome c.requires.1)

pub returns-clause-comes : goal.returns-clause-comes
returns-clause-comes c k s =
    let fr = c.args.frame in
    let next = c.end_of_row-next.result in
    let e = c.end_of_row-next.ensures _ (up.patch_end k.base k.name fr _ c.args.ends _ _ k.outcome s) in
    let p = up.child_passed k.base k.name fr _ c.args.ends _ _ k.outcome s in
    rw c.after_child.ensures
    (elim c.match-frame.branch [
      | in-ByName w ↦ rw w.row-is (up.goes_named k.base k.name fr _ c.args.ends _ _ k.outcome s w.row_by_name-row.result _ (w.row_by_name-row.ensures _ p) next w.in-ByName.is e)
      | in_default w ↦ rw w.row-is (up.goes_up k.base k.name fr _ c.args.ends _ _ k.outcome s w.row_behind-row.result _ next (w.row_behind-row.ensures _ p) (λ x. refl) e)
    ])

pub returns-clause-falls : goal.returns-clause-falls
returns-clause-falls c =
    let k = c.requires.0 in
    let few = up.few_left k.base k.name c.args.frame _ c.args.ends _ _ k.outcome c.requires.1 in
    up_falls 65535 c.args.ends c.args.frame c.after_child.result (frames_of c.args.self.now) _ refl (omega (arith, ap (λ (x : Frame). x.next.count) c.after_child.ensures, few.1))
