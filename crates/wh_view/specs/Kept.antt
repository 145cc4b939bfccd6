-- The views that a catalog keeps, each with what it stores.
use Rattle.std.specs.Prelude.{◌==◌, ◌++◌, ◌+◌, ◌<◌, ◌≤◌, ◌∷◌, Bool, List, Option, Some, [], filter, is_some, not, suc, true, false, zero, ℕ}
use Rattle.wh_base.specs.Lists.{change_where, same_text}
use Rattle.wh_base.specs.declared.views.ViewDef.{ViewDef}
use Rattle.wh_base.specs.declared.views.ViewEntry.{ViewEntry}
use Rattle.def_history.specs.Catalog.{View}

-- a view of the catalog, and the entries that it stores
pub record Kept : Type 0 where
  pub view : View
  pub entries : List ViewEntry

-- the views that are there, in order of creation, and how many were ever made
pub record AllKept : Type 0 where
  pub views : List Kept
  pub made : ℕ

abbrev pub none_kept : AllKept
none_kept = record { views = []; made = 0 }

-- the view has this number; no two views ever have the same
abbrev pub is_numbered : ℕ → Kept → Bool
is_numbered n k = k.view.def.view == n

abbrev pub is_named : List ℕ → Kept → Bool
is_named name k = same_text k.view.def.name name

-- ---- what the calls make of a view

-- a new view: with a point it is built and registered, without one it stores nothing yet
abbrev pub new_kept : ViewDef → Option ℕ → List ViewEntry → Kept
new_kept def point entries = record { view = record { def = def; point = point; registered = is_some point; suspended = false }; entries = entries }

-- the view enabled or disabled for query rewrite
abbrev pub switched : Bool → Kept → Kept
switched on k = record k { view = record k.view { def = record k.view.def { rewrite = on } } }

-- the view as an accepted refresh leaves it
abbrev pub refreshed : ℕ → List ViewEntry → Kept → Kept
refreshed scn entries k = record { view = record k.view { point = Some scn; registered = true; suspended = false }; entries = entries }

abbrev pub unregistered : Kept → Kept
unregistered k = record k { view = record k.view { registered = false } }

abbrev pub suspended : Kept → Kept
suspended k = record k { view = record k.view { suspended = true } }

-- ---- what the calls make of all views

abbrev pub added : Kept → AllKept → AllKept
added k a = record { views = a.views ++ k ∷ []; made = a.made + 1 }

-- the views with the one of this number changed
abbrev pub changed : ℕ → (Kept → Kept) → AllKept → AllKept
changed n change a = record a { views = change_where (is_numbered n) change a.views }

-- the views without the one of this number
abbrev pub removed : ℕ → AllKept → AllKept
removed n a = record a { views = filter (λ k. not (is_numbered n k)) a.views }

-- the views with the one at this place changed
abbrev pub with_change : ℕ → (Kept → Kept) → List Kept → List Kept
with_change n change [] = []
with_change zero change (k ∷ ks) = change k ∷ ks
with_change (suc n) change (k ∷ ks) = k ∷ with_change n change ks

-- ---- what is true of all views

-- the numbers ascend, each is above this one, and none is above the last that was given
abbrev pub Ascend : ℕ → ℕ → List Kept → Type 0
Ascend low made [] = low ≤ made
Ascend low made (k ∷ ks) = (low < k.view.def.view) × Ascend k.view.def.view made ks

abbrev pub AreNumbered : AllKept → Type 0
AreNumbered a = Ascend 0 a.made a.views
