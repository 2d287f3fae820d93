use Rattle.std.proofs.Common.{◌≡◌, ◌+◌, true, false, sym, refl, ap, ◌∙◌, subst, add-zero, arith}
use Rattle.names.specs.Names.{same_name}
use Rattle.trees.specs.Tree.{under, size}
use Rattle.trees.specs.Place.{position_from}
use Rattle.cells.specs.Layout.{LieAll}
use Rattle.cells.proofs.Layouts.{lies_label, next, none_left}
use Rattle.cells.proofs.Readings.{lies_read, lies_stand_at}
use Rattle.cells.proofs.Searches.{kept_unique, under_here, under_past, position_here, position_past}
use Rattle.cells.proofs.rows.Row.under.Goals as goal

pub loop-i-init : goal.loop-i-init
loop-i-init c =
    let f = c.requires.0 in
    let a = c.requires.1 in
    (f, f, a, a.lies, add-zero _ ∙ sym a.counted, a.high, refl, refl)

pub bounds-cells-pos : goal.bounds-cells-pos
bounds-cells-pos c = let m = next c.loop-i.invariant.3 (omega arith) in m.here.begins

pub returns-then-eq : goal.returns-then-eq
returns-then-eq c f a =
    let n = c.args.name.now in
    let g = c.loop-i.invariant.1 in
    let m = next c.loop-i.invariant.3 (omega arith) in
    let z = kept_unique a c.loop-i.invariant.2 in
    let q : same_name n m.here.label ≡ true = ap (same_name n) (sym (lies_label _ m.here)) ∙ sym c.if-eq.ensures in
    record {
      child = m.first;
      is = ap (under n) z ∙ c.loop-i.invariant.6 ∙ under_here n m.here.label m.first m.others g m.is q;
      placed = ap (position_from 0 n) z ∙ c.loop-i.invariant.7 ∙ position_here n m.here.label m.first m.others g m.is c.loop-i.i q;
      lies = m.here;
    }

pub end_of-pos-requires : goal.end_of-pos-requires
end_of-pos-requires c =
    let m = next c.loop-i.invariant.3 (omega arith) in
    lies_stand_at _ m.here (omega arith)

pub loop-i-preserved : goal.loop-i-preserved
loop-i-preserved c =
    let n = c.args.name.now in
    let g = c.loop-i.invariant.1 in
    let m = next c.loop-i.invariant.3 (omega arith) in
    let e = c.end_of-pos.ensures ∙ ap (λ v. c.loop-i.pos + size v) (lies_read m.here).tree in
    let q : same_name n m.here.label ≡ false = ap (same_name n) (sym (lies_label _ m.here)) ∙ sym c.if-eq.ensures in (
      c.loop-i.invariant.0,
      m.others,
      c.loop-i.invariant.2,
      subst (λ k. LieAll c.args.cells.now k m.others) (sym e) m.there,
      omega arith,
      omega arith,
      c.loop-i.invariant.6 ∙ under_past n m.here.label m.first m.others g m.is q,
      c.loop-i.invariant.7 ∙ position_past n m.here.label m.first m.others g m.is c.loop-i.i q,
    )

pub returns : goal.returns
returns c f a =
    let n = c.args.name.now in
    let z = kept_unique a c.loop-i.invariant.2 in
    let o = none_left c.loop-i.invariant.1 (omega arith) in
    record {
      is = ap (under n) z ∙ c.loop-i.invariant.6 ∙ ap (under n) o;
      placed = ap (position_from 0 n) z ∙ c.loop-i.invariant.7 ∙ ap (position_from c.loop-i.i n) o;
    }
