use Rattle.std.proofs.Common.{◌≡◌, ℕ, ◌+◌, ◌<◌, List, drop, ap, ◌∙◌, arith}
use Rattle.trees.specs.Tree.{size}
use Rattle.cells.specs.Reading.{first_tree, roots}
use Rattle.cells.specs.declared.types.Cell.{Cell}
use Rattle.cells.specs.declared.views.Kids.{Kids}
use Rattle.cells.proofs.Viewed.{Splits, rows, first_whole, first_some, read_first, splits, stands, first_within}
use Rattle.cells.proofs.views.Kids.split_first.Goals as goal

pub end_of-requires : goal.end_of-requires
end_of-requires c = let k = c.args.self in stands _ (first_whole k.count k.cells.now (first_some k c.in_ok-child.child c.in_ok-child.ensures) (rows k))

pub split_at-requires : goal.split_at-requires
split_at-requires c =
    let k = c.args.self in
    omega (arith, first_within k.cells.now (first_whole k.count k.cells.now (first_some k c.in_ok-child.child c.in_ok-child.ensures) (rows k)).whole)

parts : (k : Kids) (end : ℕ) (rest : List Cell) → 0 < k.count → end ≡ 0 + size (first_tree (roots k.cells.now)) → rest ≡ drop end k.cells.now → Splits k.count k.cells.now rest
parts k end rest p e q = splits k.count end k.cells.now rest p (rows k) (omega arith) q

pub invariant_of-others : goal.invariant_of-others
invariant_of-others c = let r = (parts c.args.self _ _ (first_some c.args.self c.in_ok-child.child c.in_ok-child.ensures) c.end_of.ensures c.split_at.ensures.back).rows in record { whole = r.whole; sane = r.sane }

pub returns : goal.returns
returns c =
    let f = c.in_ok-child.ensures in
    let p = parts c.args.self _ _ (first_some c.args.self c.in_ok-child.child f) c.end_of.ensures c.split_at.ensures.back in
    record {
      split = read_first c.args.self c.in_ok-child.child f p.is;
      cut =
          record {
            first = f.cells;
            rest = c.split_at.ensures.back ∙ ap (λ n. drop n c.args.self.cells.now) (omega (arith, c.end_of.ensures, ap (λ cs. size (first_tree (roots cs))) f.cells));
          };
      behind = record { fewer = omega arith; cells = p.behind };
    }
