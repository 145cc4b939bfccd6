-- SHOW VIEW by the view that is found in an image.
use Rattle.std.proofs.Common.{◌≡◌, ◌∙◌, sym, ap, ℕ, zero, suc, Bool, true, false, cond, List, [], ◌∷◌, Option, None, Some}
use Rattle.std.specs.List.{find}
use Rattle.std.specs.Prelude.{option_map, slice_get}
use Rattle.wh_base.specs.Lists.{or_refuse}
use Rattle.wh_base.specs.declared.replies.Refusal.TheVariants.{NoSuchObject}
use Rattle.wh_base.specs.declared.replies.Reply.{Reply}
use Rattle.wh_base.specs.declared.statements.Event.{Event}
use Rattle.def_history.specs.Catalog.{Catalog, View}
use Rattle.def_journal.specs.Explaining.{show_view}
use Rattle.wh_answer.proofs.Steps.{reply_by}
use Rattle.wh_answer.specs.Answered.{refusal, shown_view}
use Rattle.wh_answer.specs.Over.{IsImageOf}
use Rattle.wh_image.proofs.Lookup.{lookups}
use Rattle.wh_image.specs.Standing.{StandsFor}
use Rattle.wh_table.specs.Stored.{Stored}
use Rattle.law_trace.specs.Reached.{catalog_of}
use Rattle.wh_view.specs.Kept.{AllKept, Kept, is_named}

-- an item that is found has a place
found_at : {A : Type 0} (p : A → Bool) (xs : List A) (x : A) → find p xs ≡ Some x → (n : ℕ) × (slice_get xs n ≡ Some x)
found_at p [] x h = absurd (cc)
found_at p (y ∷ ys) x h = by (p y) (found_at p ys x) h
  where
    by : (b : Bool) → (find p ys ≡ Some x → (n : ℕ) × (slice_get ys n ≡ Some x)) → cond b (Some y) (find p ys) ≡ Some x → (n : ℕ) × (slice_get (y ∷ ys) n ≡ Some x)
    by true later g = (zero, g)
    by false later g = let at = later g in (suc at.0, at.1)

module _ (scn : ℕ) (tables : List Stored) (views : AllKept) (trace : List Event) (is : IsImageOf trace scn tables views) (name : List ℕ) where
  -- the reply by what is found under the name
  by_name : (o : Option Kept) → find (is_named name) views.views ≡ o
      → shown_view (catalog_of trace) name ≡ reply_by (show_view (catalog_of trace)) (or_refuse (option_map (λ (k : Kept). k.view) o) (NoSuchObject name))
  by_name o found =
      ap (λ (v : Option View). reply_by (show_view (catalog_of trace)) (or_refuse v (NoSuchObject name)))
      (lookups.named scn tables views (catalog_of trace) name is.stands ∙ ap (option_map (λ (k : Kept). k.view)) found)

  pub shown_some : (k : Kept) (r : Reply) → find (is_named name) views.views ≡ Some k
      → ((c : Catalog) (all : AllKept) (n : ℕ) → StandsFor scn tables all c → slice_get all.views n ≡ Some k → r ≡ show_view c k.view) → r ≡ shown_view (catalog_of trace) name
  shown_some k r found gives =
      let at = found_at (is_named name) views.views k found in
      gives (catalog_of trace) views at.0 is.stands at.1 ∙ sym (by_name (Some k) found)

  pub shown_none : find (is_named name) views.views ≡ None → refusal (NoSuchObject name) ≡ shown_view (catalog_of trace) name
  shown_none found = sym (by_name None found)
