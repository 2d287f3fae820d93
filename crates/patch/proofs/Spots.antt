-- A target node that is renewed: its cells, and the patch's, by their parts.
use Rattle.std.proofs.Common.{◌≡◌, ℕ, ◌+◌, ◌≤◌, List, [], ◌∷◌, ◌++◌, length, get_or, drop, sym, ap, ◌∙◌, subst, ap₂, append_assoc, arith, length-append, drop-drop, drop_at}
use Rattle.std.proofs.lemmas.List.{append-nil}
use Rattle.trees.specs.Name.{Name}
use Rattle.trees.specs.declared.head.Head.{Head}
use Rattle.trees.specs.Tree.{Tree, node, Forest, empty, more, size, sizes}
use Rattle.trees.specs.Place.{add_last}
use Rattle.cells.specs.declared.types.Cell.{Cell}
use Rattle.cells.specs.Layout.{encode, encodes, cell_of, Lies}
use Rattle.cells.specs.Reading.{tree_at}
use Rattle.cells.proofs.Layouts.{lies, first_cell, length-encode, length-encodes}
use Rattle.cells.proofs.Readings.{lies_read}
use Rattle.patch.specs.declared.errors.ApplyError.{ApplyError}
use Rattle.patch.specs.declared.frames.Meeting.{Meeting}
use Rattle.std.specs.declared.ops.Range.{Range}
use Rattle.patch.specs.Edits.{Parts, IsRenewed, Refused, Spot, Became, Placed, Site}
use Rattle.patch.proofs.Zippers.{drop_beyond}

-- where a tree ends, as it is read
pub ends_at : {cells : List Cell} {at n : ℕ} {t : Tree} → Lies cells at t → n ≡ at + size (tree_at cells at) → n ≡ at + size t
ends_at {at = at} a e = e ∙ ap (λ v. at + size v) (lies_read a).tree

module _ {cells : List Cell} {at : Meeting} {used : ℕ} {p : List Cell} {l : Name} {t u : Tree} {q rest : List Cell} (s : Spot cells at used p l t u q rest) where
  -- both nodes lie in the cells
  target_drop : drop at.target cells ≡ encode l t ++ (q ++ rest)
  target_drop = ap (drop at.target) s.is ∙ drop_at p (encode l t ++ (q ++ rest)) at.target (sym s.place)

  pub spot_target : Lies cells at.target t
  spot_target = lies l (q ++ rest) target_drop

  pub patch_drop : drop at.patch cells ≡ encode s.patch.label u ++ (s.patch.rest ++ (encode l t ++ (q ++ rest)))
  patch_drop = ap (drop at.patch) s.is ∙ drop_beyond (encode l t ++ (q ++ rest)) s.patch

  abbrev pub spot_patch : Lies cells at.patch u
  spot_patch =
      record {
        label = s.patch.label;
        rest = s.patch.rest ++ (encode l t ++ (q ++ rest));
        is = patch_drop;
        begins = omega (arith, s.patch.begins, ap length s.is, length-append p (encode l t ++ (q ++ rest)));
        within = omega (arith, s.patch.within, ap length s.is, length-append p (encode l t ++ (q ++ rest)));
      }

  pub spot_read : (d : Cell) → get_or cells at.target d ≡ cell_of l t
  spot_read d = first_cell cells at.target l t _ d target_drop

  pub spot_patch_read : (d : Cell) → get_or cells at.patch d ≡ cell_of s.patch.label u
  spot_patch_read d = first_cell cells at.patch s.patch.label u _ d patch_drop

  pub spot_used : used ≡ at.target + size t + length q
  spot_used = omega (arith, s.used_is, ap length s.is, length-append p (encode l t ++ (q ++ rest)), length-append (encode l t) (q ++ rest), length-append q rest, length-encode l t, s.place)

  pub spot_front : at.patch + size u ≤ at.target
  spot_front = omega (arith, s.patch.within, s.place)

-- a copy that found no room, by its size
pub refused_by : {before cells rest : List Cell} {n : ℕ} (m : ℕ) {e : ApplyError} → n ≡ m → Refused before cells rest n e → Refused before cells rest m e
refused_by {before} {cells} {rest} m {e} k r = subst (λ x. Refused before cells rest x e) k r

-- the fields of the one in the place of the fields of the other
module _ {cells : List Cell} {at : Meeting} {used : ℕ} {p : List Cell} {l : Name} {h k : Head} {f g : Forest} {q rest : List Cell} (s : Spot cells at used p l (node h f) (node k g) q rest) (run old : Range ℕ) where
  abbrev behind : List Cell
  behind = s.patch.rest ++ (encode l (node h f) ++ (q ++ rest))

  pub switch_site : run.start ≡ at.patch + 1 → run.end ≡ at.patch + size (node k g) → old.start ≡ at.target + 1 → old.end ≡ at.target + size (node h f)
      → Parts cells at.target run old used p (cell_of l (node h f)) [] (encodes f) q rest (encodes g) behind
  switch_site a b c d =
      record {
        is = s.is;
        target_is = sym s.place;
        at_is = omega (arith, c);
        end_is = omega (arith, c, d, length-encodes f);
        used_is = omega (arith, spot_used s, d);
        run_is = ap (λ n. drop n cells) a ∙ sym (drop-drop 1 at.patch cells) ∙ ap (drop 1) (patch_drop s);
        run_end = omega (arith, a, b, length-encodes g);
        front = omega (arith, b, spot_front s);
      }

  pub switched : (cell : Cell) (cells' : List Cell) (n : ℕ) → cell ≡ cell_of l (node k g) → IsRenewed cells' cell p [] (encodes f) q rest (encodes g) n → Became cells' p l (node k g) q rest (sizes g) (sizes f) n
  switched cell cells' n e r =
      record {
        left = r.left;
        is = r.is ∙ ap (λ x. p ++ (x ∷ (encodes g ++ (q ++ r.left)))) e;
        fits = omega (arith, r.fits, length-encodes g);
        frees = omega (arith, r.frees, length-encodes f, length-encodes g);
        used_is = r.used_is;
      }

-- a last child more
encodes_last : (l : Name) (u : Tree) (f : Forest) → encodes (add_last l u f) ≡ encodes f ++ encode l u
encodes_last l u empty = append-nil (encode l u)
encodes_last l u (more m t f) = ap (λ x. encode m t ++ x) (encodes_last l u f) ∙ sym (append_assoc (encode m t) (encodes f) (encode l u))

module _ {cells : List Cell} {at : Meeting} {used : ℕ} {p : List Cell} {l : Name} {h : Head} {f : Forest} {u : Tree} {q rest : List Cell} (s : Spot cells at used p l (node h f) u q rest) (run old : Range ℕ) where
  abbrev beyond : List Cell
  beyond = s.patch.rest ++ (encode l (node h f) ++ (q ++ rest))

  pub extend_site : run.start ≡ at.patch → run.end ≡ at.patch + size u → old.start ≡ at.target + size (node h f) → old.end ≡ at.target + size (node h f)
      → Parts cells at.target run old used p (cell_of l (node h f)) (encodes f) [] q rest (encode s.patch.label u) beyond
  extend_site a b c d =
      record {
        is = s.is;
        target_is = sym s.place;
        at_is = omega (arith, c, length-encodes f);
        end_is = omega (arith, c, d);
        used_is = omega (arith, spot_used s, d);
        run_is = ap (λ n. drop n cells) a ∙ patch_drop s;
        run_end = omega (arith, a, b, length-encode s.patch.label u);
        front = omega (arith, b, spot_front s);
      }

  pub extended : (cell : Cell) (cells' : List Cell) (n : ℕ) → cell ≡ cell_of l (node h (add_last s.patch.label u f)) → IsRenewed cells' cell p (encodes f) [] q rest (encode s.patch.label u) n
      → Became cells' p l (node h (add_last s.patch.label u f)) q rest (size u) 0 n
  extended cell cells' n e r =
      let m = s.patch.label in
      record {
        left = r.left;
        is = r.is ∙ ap₂ (λ x y. p ++ (x ∷ y)) e (sym (append_assoc (encodes f) (encode m u) (q ++ r.left)) ∙ ap (λ x. x ++ (q ++ r.left)) (sym (encodes_last m u f)));
        fits = omega (arith, r.fits, length-encode m u);
        frees = omega (arith, r.frees, length-encode m u);
        used_is = r.used_is;
      }

-- the same, as one record
abbrev pub placed_site : {cells : List Cell} {used : ℕ} {at : Meeting} {t u : Tree} {x : Cell} {f o copied after : List Cell} (s : Placed cells used at t u) (run old : Range ℕ) → Parts cells at.target run old used s.front x f o s.behind s.free copied after → Site cells used at.target run old
placed_site {cells} {used} {at} {t} {u} {x} {f} {o} {copied} {after} s run old k =
    record {
      front = s.front;
      cell = x;
      before = f;
      there = o;
      behind = s.behind;
      free = s.free;
      copied = copied;
      after = after;
      parts = k;
    }
