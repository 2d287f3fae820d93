-- Where paths lead.
use Rattle.std.proofs.Common.{◌≡◌, ℕ, ◌+◌, ◌≤◌, List, [], ◌∷◌, length, Some, None, Option, refl, ap, ◌∙◌, arith}
use Rattle.trees.specs.Tree.{Tree, node, height, at}
use Rattle.trees.specs.Name.{Name}
use Rattle.trees.specs.Place.{find, label_at}
use Rattle.cells.specs.Layout.{kids, before, far, label_in}
use Rattle.cells.proofs.Layouts.{height_at}

-- nothing leads on from no node
pub find_none : (path : List ℕ) → find None path ≡ None
find_none [] = refl
find_none (i ∷ path) = refl

-- a step to a child, and one past the last child
pub find_step : (i : ℕ) (path : List ℕ) (u : Tree) (o : Option Tree) → at i (kids u) ≡ o → find (Some u) (i ∷ path) ≡ find o path
find_step i path (node h f) o e = ap (λ o. find o path) e

pub find_past : (i : ℕ) (path : List ℕ) (u : Tree) → at i (kids u) ≡ None → find (Some u) (i ∷ path) ≡ None
find_past i path u e = find_step i path u None e ∙ find_none path

pub far_step : (i : ℕ) (path : List ℕ) (u v : Tree) → at i (kids u) ≡ Some v → far (Some u) (i ∷ path) ≡ before i (kids u) + 1 + far (Some v) path
far_step i path (node h f) v e = omega (arith, ap (λ o. far o path) e)

pub label_step : (i : ℕ) (path : List ℕ) (l : Name) (u v : Tree) → at i (kids u) ≡ Some v → label_in l (Some u) (i ∷ path) ≡ label_in (label_at i (kids u)) (Some v) path
label_step i path l (node h f) v e = ap (λ o. label_in (label_at i f) o path) e

-- a path that leads somewhere has a first step that does
pub record Stepped (i : ℕ) (path : List ℕ) (t u : Tree) : Type 0 where
  pub child : Tree
  pub is : at i (kids t) ≡ Some child
  pub on : find (Some child) path ≡ Some u

pub stepped : (i : ℕ) (path : List ℕ) (t u : Tree) → find (Some t) (i ∷ path) ≡ Some u → Stepped i path t u
stepped i path (node h f) u e = go (at i f) refl e
  where
    go : (o : Option Tree) → at i f ≡ o → find o path ≡ Some u → Stepped i path (node h f) u
    go None k e = absurd (let z : ◌≡◌ {A = ℕ} 0 1 = cc (find_none path) in omega arith)
    go (Some v) k e = record { child = v; is = k; on = e }

height_kid : (t : Tree) (i : ℕ) {v : Tree} → at i (kids t) ≡ Some v → height v + 1 ≤ height t
height_kid (node h f) i e = omega (arith, height_at f i e)

-- each step of a path leads one level down
pub level_find : (path : List ℕ) (t : Tree) {u : Tree} → find (Some t) path ≡ Some u → length path + height u ≤ height t
level_find [] t {u} e = let k : t ≡ u = cc in omega (arith, ap height k)
level_find (i ∷ path) t {u} e =
    let s = stepped i path t u e in
    omega (arith, level_find path s.child s.on, height_kid t i s.is)
