-- The entries after changes as a function: they have the rows after the changes, with keys apart.
use Rattle.std.proofs.Common.{◌≡◌, ◌∙◌, sym, ap, refl, Bool, true, false, cond, not, List, [], ◌∷◌, ◌++◌, map, Option, Some, None}
use Rattle.std.specs.Prelude.{is_some, ◌&&◌, ◌||◌}
use Rattle.std.specs.List.{list_any}
use Rattle.std.proofs.lemmas.List.{map-append}
use Rattle.std.proofs.lemmas.Bool.{or_parts}
use Rattle.std.proofs.lemmas.List.Folds.{list_any-append}
use Rattle.wh_base.specs.Lists.{distinct, distinct_after, is_empty, option_case, sorted_by}
use Rattle.wh_base.specs.Values.{same_values}
use Rattle.wh_base.specs.declared.columns.Agg.TheVariants.{CountAll}
use Rattle.wh_base.specs.declared.columns.ColRef.{ColRef}
use Rattle.wh_base.specs.declared.queries.StarQuery.{StarQuery}
use Rattle.wh_base.specs.declared.values.Value.{Value}
use Rattle.wh_base.specs.declared.views.ViewEntry.{ViewEntry}
use Rattle.def_meaning.specs.Accumulated.{acc_of}
use Rattle.def_meaning.specs.Meaning.{entries, entry_cmp, key_of}
use Rattle.law_lists.proofs.Lists.{none_with}
use Rattle.law_delta.specs.Deltas.{Balanced}
use Rattle.law_delta.specs.Moved.{Counted, KeysApart, delta_entries, delta_keys, found_row, made_entries, moved_row, row_after, row_says, selects, with_key}
use Rattle.law_delta.proofs.Grouped.{any-with_key, entry_with, found-distinct}
use Rattle.law_delta.proofs.Lookups.{is_same, same_is, same_turns}
use Rattle.law_delta.proofs.Refreshed.{refreshed}

none_cond : (b : Bool) (o : Option (List Value)) → o ≡ None → o ≡ cond b o None
none_cond true o h = refl
none_cond false o h = h

found-made : (row : List Value → Option (List Value)) (j : List Value) (ks : List (List Value)) → found_row j (made_entries row ks) ≡ cond (list_any (same_values j) ks) (row j) None
found-made row j [] = refl
found-made row j (k ∷ ks) = by (row k) refl (same_values j k) refl (found-made row j ks)
  where
    none_or : (b : Bool) (o : Option (List Value)) → o ≡ None → cond b o None ≡ o
    none_or true o h = refl
    none_or false o h = sym h

    by : (o : Option (List Value)) → row k ≡ o → (b : Bool) → same_values j k ≡ b → found_row j (made_entries row ks) ≡ cond (list_any (same_values j) ks) (row j) None
        → found_row j (option_case o (made_entries row ks) (λ r. record { key = k; row = r } ∷ made_entries row ks)) ≡ cond (b || list_any (same_values j) ks) (row j) None
    by None e true f h = let gone : row j ≡ None = ap row (same_is j k f) ∙ e in h ∙ none_or (list_any (same_values j) ks) (row j) gone
    by None e false f h = h
    by (Some r) e true f h = let here : row j ≡ Some r = ap row (same_is j k f) ∙ e in (λ i. cond ((same_turns k j ∙ f) i) (Some r) (found_row j (made_entries row ks))) ∙ sym here
    by (Some r) e false f h = (λ i. cond ((same_turns k j ∙ f) i) (Some r) (found_row j (made_entries row ks))) ∙ h

any-found : (k : List Value) (ks : List (List Value)) → list_any (same_values k) ks ≡ is_some (found_row k (map (entry_with (λ _. [])) ks))
any-found k [] = refl
any-found k (j ∷ js) = (λ i. same_turns k j i || list_any (same_values k) js) ∙ by (same_values j k) (any-found k js)
  where
    by : (b : Bool) → list_any (same_values k) js ≡ is_some (found_row k (map (entry_with (λ _. [])) js)) → (b || list_any (same_values k) js) ≡ is_some (cond b (Some []) (found_row k (map (entry_with (λ _. [])) js)))
    by true h = refl
    by false h = h

any-distinct : (k : List Value) (seen ks : List (List Value)) → list_any (same_values k) (distinct_after same_values seen ks) ≡ (list_any (same_values k) ks && not (list_any (same_values k) seen))
any-distinct k seen ks = any-found k (distinct_after same_values seen ks) ∙ ap is_some (found-distinct (λ _. []) k seen ks) ∙ by (list_any (same_values k) ks && not (list_any (same_values k) seen)) []
  where
    by : (b : Bool) (r : List Value) → is_some (cond b (Some r) None) ≡ b
    by true r = refl
    by false r = refl

apart-made : (row : List Value → Option (List Value)) (seen ks : List (List Value)) → KeysApart (made_entries row (distinct_after same_values seen ks))
apart-made row seen [] = tt
apart-made row seen (k ∷ ks) = by (list_any (same_values k) seen) (apart-made row seen ks) (apart-made row (k ∷ seen) ks) none
  where
    off : (m s : Bool) (o : Option (List Value)) → cond (m && not (true || s)) o None ≡ None
    off true s o = refl
    off false s o = refl

    none : found_row k (made_entries row (distinct_after same_values (k ∷ seen) ks)) ≡ None
    none =
        found-made row k (distinct_after same_values (k ∷ seen) ks)
        ∙ (λ i. cond (any-distinct k (k ∷ seen) ks i) (row k) None)
        ∙ (λ i. cond (list_any (same_values k) ks && not (is_same k k refl i || list_any (same_values k) seen)) (row k) None)
        ∙ off (list_any (same_values k) ks) (list_any (same_values k) seen) (row k)

    put : (o : Option (List Value)) (es : List ViewEntry) → KeysApart es → found_row k es ≡ None → KeysApart (option_case o es (λ r. record { key = k; row = r } ∷ es))
    put None es apart none = apart
    put (Some r) es apart none = (none, apart)

    by : (a : Bool) → KeysApart (made_entries row (distinct_after same_values seen ks)) → KeysApart (made_entries row (distinct_after same_values (k ∷ seen) ks)) → found_row k (made_entries row (distinct_after same_values (k ∷ seen) ks)) ≡ None
        → KeysApart (made_entries row (cond a (distinct_after same_values seen ks) (k ∷ distinct_after same_values (k ∷ seen) ks)))
    by true one other none = one
    by false one other none = put (row k) (made_entries row (distinct_after same_values (k ∷ seen) ks)) other none

-- ---- a key that is nowhere has no row

none_found_where : (k : List Value) (es : List ViewEntry) → list_any (same_values k) (map (λ e. e.key) es) ≡ false → found_row k es ≡ None
none_found_where k [] h = refl
none_found_where k (e ∷ es) h = by (same_values k e.key) refl h (none_found_where k es)
  where
    by : (b : Bool) → same_values k e.key ≡ b → (b || list_any (same_values k) (map (λ e. e.key) es)) ≡ false → (list_any (same_values k) (map (λ e. e.key) es) ≡ false → found_row k es ≡ None) → cond (same_values e.key k) (Some e.row) (found_row k es) ≡ None
    by true x h more = cc
    by false x h more = (λ i. cond ((same_turns e.key k ∙ x) i) (Some e.row) (found_row k es)) ∙ more h

nowhere : {T : Type 0} (value : T → ColRef → Value) (q : StarQuery) (before : List ViewEntry) (olds news : List T) (k : List Value) → list_any (same_values k) (delta_keys value q before olds news) ≡ false → row_after value q before olds news k ≡ None
nowhere {T} value q before olds news k h =
    let key : T → List Value = key_of value q.keys in
    let first : (list_any (same_values k) (map (λ e. e.key) before) ≡ false) × (list_any (same_values k) (map key (olds ++ news)) ≡ false) =
    or_parts (list_any (same_values k) (map (λ e. e.key) before)) (list_any (same_values k) (map key (olds ++ news))) (sym (list_any-append (same_values k) (map (λ e. e.key) before) (map key (olds ++ news))) ∙ h) in
    let rest : (list_any (same_values k) (map key olds) ≡ false) × (list_any (same_values k) (map key news) ≡ false) =
    or_parts (list_any (same_values k) (map key olds)) (list_any (same_values k) (map key news))
    (sym (list_any-append (same_values k) (map key olds) (map key news)) ∙ ap (list_any (same_values k)) (sym (map-append key olds news)) ∙ first.1) in
    let no_row : found_row k before ≡ None = none_found_where k before first.0 in
    let no_olds : with_key key k olds ≡ [] = none_with (with_key key k olds) (sym (any-with_key key k olds) ∙ rest.0) in
    let no_news : with_key key k news ≡ [] = none_with (with_key key k news) (sym (any-with_key key k news) ∙ rest.1) in
    λ i. moved_row q k (row_says q.items (no_row i)) (acc_of value (no_news i)) (acc_of value (no_olds i))

delta_found : {T : Type 0} (value : T → ColRef → Value) (q : StarQuery) (before : List ViewEntry) (olds news : List T) (k : List Value) → found_row k (delta_entries value q before olds news) ≡ row_after value q before olds news k
delta_found value q before olds news k =
    let keys : List (List Value) = delta_keys value q before olds news in
    found-made (row_after value q before olds news) k (distinct same_values keys)
    ∙ (λ i. cond (any-distinct k [] keys i) (row_after value q before olds news k) None)
    ∙ by (list_any (same_values k) keys) refl
  where
    by : (b : Bool) → list_any (same_values k) (delta_keys value q before olds news) ≡ b → cond (b && true) (row_after value q before olds news k) None ≡ row_after value q before olds news k
    by true h = refl
    by false h = sym (nowhere value q before olds news k h)

-- The delta as a function gives what the definition stores after the changes.
pub delta_is : {T : Type 0} (value : T → ColRef → Value) (q : StarQuery) → q.having ≡ [] → is_empty q.keys ≡ false → selects q.items CountAll ≡ true → q.grouped ≡ true
    → (now olds before news : List T) → Balanced now olds before news → Counted value q before
    → sorted_by entry_cmp (delta_entries value q (sorted_by entry_cmp (entries value q before)) olds news) ≡ sorted_by entry_cmp (entries value q now)
delta_is value q having keyed rows grouped now olds before news h counted =
    let old : List ViewEntry = sorted_by entry_cmp (entries value q before) in
    refreshed value q having keyed rows grouped now olds before news h counted (delta_entries value q old olds news)
    (apart-made (row_after value q old olds news) [] (delta_keys value q old olds news))
    (delta_found value q old olds news)
