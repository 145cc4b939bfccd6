-- What clap makes of plain words at the command of two positionals.
use Rattle.std.proofs.Common.{◌≡◌, ◌∙◌, ◌&&◌, ◌⊎◌, ℕ, Bool, List, Option, None, Some, [], ◌∷◌, true, false, refl, sym, ap, ap₂, subst, codes, not, option_map, inl, inr, true≢false}
use Rattle.std.specs.Prelude.{Err, IfErr, IfOk, Ok, Result, is_some, option_to_list}
use Rattle.std.specs.List.{list_all}
use Rattle.std.specs.Str.{bytes_eq, is_utf8}
use Rattle.clap.specs.Lexer.{strip_byte}
use Rattle.clap.specs.Simple.{App, HasMatchesOf, Shape, built, entered, is_simple, matches_of, new_app, new_rule, on_top, with_rule}
use Rattle.clap.specs.Walk.{Row, Rule, Walk, finished, first_of, idle, nothing_held, reading_by, rows_of, settled, walk, walk_from, walked}
use Rattle.clap.specs.Faults.{check_fault, defaults_fault, entered_fault, fault_of, is_simple_and_free, settle_fault, turn_fault, walk_fault}
use Rattle.clap.specs.Kinds.{FailsBy, IsAmong, Kinds, or_else}
use Rattle.clap.specs.Matches.{found_of}
use Rattle.clap.specs.Values.{kind_of}
use Rattle.clap.specs.declared.parser.matches.ValueSource.TheVariants.{CommandLine}
use Rattle.clap.specs.declared.error.Error.{Error}
use Rattle.clap.specs.declared.error.kind.ErrorKind.{ErrorKind}
use Rattle.clap.specs.declared.error.kind.ErrorKind.TheVariants as kind
use Rattle.clap.specs.declared.parser.matches.ArgMatches.{ArgMatches}
use Rattle.clap.proofs.OnLiterals.{clap_on_literals}
use Rattle.clap.proofs.WalkLemmas.{first_value-rows}
use Rattle.wh_words.specs.Words.{has_hyphen, is_plain, one_or_two, words_in}

abbrev pub form_rule : Rule
form_rule = record (new_rule (codes "form")) { required = true }

abbrev pub named_app : App
named_app = on_top (λ s. record s { no_binary_name = true }) (new_app (codes "mviewdb"))

abbrev pub app : App
app = with_rule (with_rule named_app form_rule) (new_rule (codes "number"))

pub app_is_free : is_simple_and_free app ≡ true
app_is_free = refl

pub app_is_simple : is_simple app ≡ true
app_is_simple = refl

-- ---- a word without a hyphen is no flag

strip_none : (w : List ℕ) → has_hyphen w ≡ false → strip_byte 45 w ≡ None
strip_none [] plain = refl
strip_none (b ∷ bs) plain = rw plain refl

not_dashes : (w : List ℕ) → has_hyphen w ≡ false → bytes_eq w (45 ∷ 45 ∷ []) ≡ false
not_dashes [] plain = refl
not_dashes (b ∷ bs) plain = rw plain refl

-- ---- the walk over the words

abbrev top : Shape
top = (built app).top

abbrev start : Walk
start = walk_from nothing_held

-- after the first word, and after the second
abbrev after_one : List ℕ → Walk
after_one a = record { held = record { rows = []; pending = Some (codes "form", a ∷ []); skip = 0 }; waiting = idle; position = 2; is_trailing = false; stopped = None }

abbrev row : List ℕ → List ℕ → Row
row id value = record { id = id; values = value ∷ []; count = None; source = Some CommandLine; reading = reading_by (new_rule id) }

abbrev after_two : List ℕ → List ℕ → Walk
after_two a b =
    record {
      held = record { rows = row (codes "form") a ∷ []; pending = Some (codes "number", b ∷ []); skip = 0 };
      waiting = idle;
      position = 3;
      is_trailing = false;
      stopped = None;
    }

first_step : (a : List ℕ) → has_hyphen a ≡ false → walked top.rules [] start a ≡ after_one a
unfolding clap_on_literals
first_step a plain = rw (strip_none a plain, not_dashes a plain, strip_none a plain) refl

second_step : (a b : List ℕ) → has_hyphen b ≡ false → walked top.rules [] (after_one a) b ≡ after_two a b
unfolding clap_on_literals
second_step a b plain = rw (strip_none b plain, not_dashes b plain, strip_none b plain) refl

first_turn : (a : List ℕ) → has_hyphen a ≡ false → turn_fault top [] start a ≡ []
unfolding clap_on_literals
first_turn a plain = rw (strip_none a plain, not_dashes a plain, strip_none a plain) refl

second_turn : (a b : List ℕ) → has_hyphen b ≡ false → turn_fault top [] (after_one a) b ≡ []
unfolding clap_on_literals
second_turn a b plain = rw (strip_none b plain, not_dashes b plain, strip_none b plain) refl

third_turn : (a b c : List ℕ) → has_hyphen c ≡ false → turn_fault top [] (after_two a b) c ≡ kind.UnknownArgument ∷ []
unfolding clap_on_literals
third_turn a b c plain = rw (strip_none c plain, not_dashes c plain, strip_none c plain) refl

-- ---- what clap finds

abbrev found_in : List Row → Option (List (List ℕ))
found_in rows = option_map (λ w. w ∷ option_to_list (first_of (codes "number") rows)) (first_of (codes "form") rows)

no_words : fault_of app [] ≡ kind.MissingRequiredArgument ∷ []
unfolding clap_on_literals
no_words = refl

one_walk : (a : List ℕ) → has_hyphen a ≡ false → walk top.rules [] nothing_held (a ∷ []) ≡ after_one a
one_walk a plain = first_step a plain

two_walk : (a b : List ℕ) → has_hyphen a ≡ false → has_hyphen b ≡ false → walk top.rules [] nothing_held (a ∷ b ∷ []) ≡ after_two a b
two_walk a b plain-a plain-b = ap (λ w. walked top.rules [] w b) (first_step a plain-a) ∙ second_step a b plain-b

-- the faults of a walk that came to w
abbrev fault_by : Kinds → Walk → Kinds
fault_by walking w =
    or_else walking (or_else (entered_fault (built app) w.stopped) (or_else (settle_fault top.rules top.args_override_self w.held)
    (or_else (defaults_fault (settled top.rules w.held).rows top.rules) (check_fault top (finished top.rules w.held) (is_some (entered (built app) w.stopped))))))

one_fault : (a : List ℕ) → has_hyphen a ≡ false → fault_of app (a ∷ []) ≡ []
unfolding clap_on_literals
one_fault a plain = ap₂ fault_by (ap (λ k. or_else k []) (first_turn a plain)) (one_walk a plain) ∙ refl

one_found : (a : List ℕ) → has_hyphen a ≡ false → found_in (matches_of app (a ∷ [])) ≡ Some (a ∷ [])
unfolding clap_on_literals
one_found a plain = ap (λ (w : Walk). found_in (finished top.rules w.held)) (one_walk a plain)

two_fault : (a b : List ℕ) → has_hyphen a ≡ false → has_hyphen b ≡ false → fault_of app (a ∷ b ∷ []) ≡ []
unfolding clap_on_literals
two_fault a b plain-a plain-b =
    let walking : walk_fault top [] start (a ∷ b ∷ []) ≡ [] =
    ap₂ or_else (first_turn a plain-a) (ap (λ w. walk_fault top [] w (b ∷ [])) (first_step a plain-a)) ∙ ap (λ k. or_else k []) (second_turn a b plain-b) in
    ap₂ fault_by walking (two_walk a b plain-a plain-b) ∙ refl

two_found : (a b : List ℕ) → has_hyphen a ≡ false → has_hyphen b ≡ false → found_in (matches_of app (a ∷ b ∷ [])) ≡ Some (a ∷ b ∷ [])
unfolding clap_on_literals
two_found a b plain-a plain-b = ap (λ (w : Walk). found_in (finished top.rules w.held)) (two_walk a b plain-a plain-b)

many_walk : (a b c : List ℕ) (more : List (List ℕ)) → has_hyphen a ≡ false → has_hyphen b ≡ false → has_hyphen c ≡ false → walk_fault top [] start (a ∷ b ∷ c ∷ more) ≡ kind.UnknownArgument ∷ []
unfolding clap_on_literals
many_walk a b c more plain-a plain-b plain-c =
    ap₂ or_else (first_turn a plain-a) (ap (λ w. walk_fault top [] w (b ∷ c ∷ more)) (first_step a plain-a))
    ∙ (ap₂ or_else (second_turn a b plain-b) (ap (λ w. walk_fault top [] w (c ∷ more)) (second_step a b plain-b))
    ∙ ap (λ k. or_else k (walk_fault top [] (walked top.rules [] (after_two a b) c) more)) (third_turn a b c plain-c))

many_fault : (a b c : List ℕ) (more : List (List ℕ)) → has_hyphen a ≡ false → has_hyphen b ≡ false → has_hyphen c ≡ false → fault_of app (a ∷ b ∷ c ∷ more) ≡ kind.UnknownArgument ∷ []
unfolding clap_on_literals
many_fault a b c more plain-a plain-b plain-c = ap (λ k. fault_by k (walk top.rules [] nothing_held (a ∷ b ∷ c ∷ more))) (many_walk a b c more plain-a plain-b plain-c)

-- ---- all lists of plain words

first_plain : (h u rest : Bool) → ((not h && u) && rest) ≡ true → (h ≡ false) × (rest ≡ true)
first_plain false true rest e = (refl, e)
first_plain false false rest e = absurd (true≢false (sym e))
first_plain true u rest e = absurd (true≢false (sym e))

plain_first : (w : List ℕ) (ws : List (List ℕ)) → list_all is_plain (w ∷ ws) ≡ true → (has_hyphen w ≡ false) × (list_all is_plain ws ≡ true)
plain_first w ws e = first_plain (has_hyphen w) (is_utf8 w) (list_all is_plain ws) e

abbrev has_none : Kinds → Bool
has_none [] = true
has_none (k ∷ ks) = false

none_more : (k : ErrorKind) (ks : Kinds) → k ∷ ks ≡ [] → ⊥
none_more k ks e = true≢false (ap has_none (sym e))

pub found_words : (ws : List (List ℕ)) → list_all is_plain ws ≡ true → fault_of app ws ≡ [] → found_in (matches_of app ws) ≡ one_or_two ws
found_words [] plain none = absurd (none_more _ _ (sym no_words ∙ none))
found_words (w ∷ []) plain none = one_found w (plain_first w [] plain).0
found_words (w ∷ n ∷ []) plain none =
    let first = plain_first w (n ∷ []) plain in
    two_found w n first.0 (plain_first n [] first.1).0
found_words (a ∷ b ∷ c ∷ more) plain none =
    let first = plain_first a (b ∷ c ∷ more) plain in
    let second = plain_first b (c ∷ more) first.1 in
    let third = plain_first c more second.1 in
    absurd (none_more _ _ (sym (many_fault a b c more first.0 second.0 third.0) ∙ none))

pub found_in_matches : (m : ArgMatches) (ws : List (List ℕ)) → list_all is_plain ws ≡ true → rows_of (found_of m) ≡ matches_of app ws → fault_of app ws ≡ [] → words_in m ≡ one_or_two ws
found_in_matches m ws plain rows none =
    ap₂ (λ (form number : Option (List ℕ)). option_map (λ w. w ∷ option_to_list number) form) (first_value-rows (found_of m) (codes "form")) (first_value-rows (found_of m) (codes "number"))
    ∙ (ap found_in rows ∙ found_words ws plain none)

pub failed_words : (k : ErrorKind) (ws : List (List ℕ)) → list_all is_plain ws ≡ true → IsAmong k (fault_of app ws) → one_or_two ws ≡ None
failed_words k [] plain among = refl
failed_words k (w ∷ []) plain among = absurd (subst (IsAmong k) (one_fault w (plain_first w [] plain).0) among)
failed_words k (w ∷ n ∷ []) plain among =
    let first = plain_first w (n ∷ []) plain in
    absurd (subst (IsAmong k) (two_fault w n first.0 (plain_first n [] first.1).0) among)
failed_words k (a ∷ b ∷ c ∷ more) plain among = refl

-- ---- a parse by the command

pub parse_found : (a : App) (r : Result ArgMatches Error) (ws : List (List ℕ)) → a ≡ app → list_all is_plain ws ≡ true → IfOk r (HasMatchesOf a ws)
    → (is_simple_and_free a ≡ true → FailsBy (fault_of a ws) r) → IfOk r (λ m. words_in m ≡ one_or_two ws)
parse_found a (Ok m) ws same plain matches kinds =
    let none : fault_of app ws ≡ [] = subst (λ b. fault_of b ws ≡ []) same (kinds (ap is_simple_and_free same ∙ app_is_free)) in
    let rows : rows_of (found_of m) ≡ matches_of app ws = (matches (ap is_simple same ∙ app_is_simple)).0 ∙ ap (λ b. matches_of b ws) same in
    found_in_matches m ws plain rows none
parse_found a (Err e) ws same plain matches kinds = tt

pub parse_failed : (a : App) (r : Result ArgMatches Error) (ws : List (List ℕ)) → a ≡ app → list_all is_plain ws ≡ true
    → (is_simple_and_free a ≡ true → FailsBy (fault_of a ws) r) → IfErr r (λ e. (kind_of e ≡ kind.OutOfMemory) ⊎ (one_or_two ws ≡ None))
parse_failed a (Ok m) ws same plain kinds = tt
parse_failed a (Err e) ws same plain kinds = elim (kinds (ap is_simple_and_free same ∙ app_is_free)) [
  | inl memory ↦ inl memory
  | inr among ↦ inr (failed_words (kind_of e) ws plain (subst (λ b. IsAmong (kind_of e) (fault_of b ws)) same among))
]
