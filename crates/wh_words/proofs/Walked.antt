-- Words as texts, one after another.
use Rattle.std.proofs.Common.{◌≡◌, ◌∙◌, ◌&&◌, ◌+◌, ◌<◌, ◌≤◌, ℕ, Bool, List, Option, None, Some, [], ◌∷◌, ◌++◌, true, false, refl, ap, sym, drop, get_or, length, map, option_map, true≢false, append-nil, append_assoc, drop_of_length-le}
use Rattle.std.proofs.lemmas.List.{drop_more, map-append}
use Rattle.std.specs.Borrow.{Bor}
use Rattle.std.specs.List.{list_all}
use Rattle.std.specs.Option.{is_some, unwrap_or}
use Rattle.wh_base.specs.Lists.{where_true}
use Rattle.wh_words.specs.Words.{is_plain}

abbrev pub texts : List (Bor (List ℕ)) → List (List ℕ)
texts = map (λ t. t.now)

-- the texts with the words to come, where these are plain
abbrev texts_with : List (List ℕ) → List (List ℕ) → Option (List (List ℕ))
texts_with done left = option_map (λ rest. done ++ rest) (where_true (list_all is_plain left) left)

abbrev pub IsWalked : List (List ℕ) → ℕ → List (Bor (List ℕ)) → Type 0
IsWalked words at items = texts_with (texts items) (drop at words) ≡ where_true (list_all is_plain words) words

plain_step : (b rest : Bool) (w t : List ℕ) (done left : List (List ℕ)) → Some t ≡ where_true b w
    → option_map (λ r. (done ++ t ∷ []) ++ r) (where_true rest left) ≡ option_map (λ r. done ++ r) (where_true (b && rest) (w ∷ left))
plain_step true true w t done left e =
    ap Some (append_assoc done (t ∷ []) left ∙ ap (λ u. done ++ u ∷ left) (ap (λ o. unwrap_or o t) e))
plain_step true false w t done left e = refl
plain_step false rest w t done left e = absurd (true≢false (ap is_some e))

plain_stop : (b rest : Bool) (w : List ℕ) (done left : List (List ℕ)) → None ≡ where_true b w → None ≡ option_map (λ r. done ++ r) (where_true (b && rest) (w ∷ left))
plain_stop true rest w done left e = absurd (true≢false (ap is_some (sym e)))
plain_stop false rest w done left e = refl

pub one_more : (words : List (List ℕ)) (at : ℕ) (items : List (Bor (List ℕ))) (t : Bor (List ℕ)) → at < length words → Some t.now ≡ where_true (is_plain (get_or words at [])) (get_or words at [])
    → IsWalked words at items → IsWalked words (at + 1) (items ++ t ∷ [])
one_more words at items t less plain walked =
    let w = get_or words at [] in
    ap (λ done. texts_with done (drop (at + 1) words)) (map-append (λ (s : Bor (List ℕ)). s.now) items (t ∷ []))
    ∙ (plain_step (is_plain w) (list_all is_plain (drop (at + 1) words)) w t.now (texts items) (drop (at + 1) words) plain
    ∙ (ap (texts_with (texts items)) (sym (drop_more words at [] less)) ∙ walked))

pub stopped : (words : List (List ℕ)) (at : ℕ) (items : List (Bor (List ℕ))) → at < length words → None ≡ where_true (is_plain (get_or words at [])) (get_or words at [])
    → IsWalked words at items → None ≡ where_true (list_all is_plain words) words
stopped words at items less flag walked =
    let w = get_or words at [] in
    plain_stop (is_plain w) (list_all is_plain (drop (at + 1) words)) w (texts items) (drop (at + 1) words) flag
    ∙ (ap (texts_with (texts items)) (sym (drop_more words at [] less)) ∙ walked)

pub at_end : (words : List (List ℕ)) (at : ℕ) (items : List (Bor (List ℕ))) → length words ≤ at → IsWalked words at items → Some (texts items) ≡ where_true (list_all is_plain words) words
at_end words at items past walked =
    ap Some (sym (append-nil (texts items))) ∙ (ap (texts_with (texts items)) (sym (drop_of_length-le words past)) ∙ walked)

pub ruleset walks = (one_more, stopped, at_end)
