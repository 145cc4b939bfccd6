-- Words that are no text, or that begin with a hyphen, name no form, and neither do three or more.
use Rattle.std.proofs.Common.{◌≡◌, ◌∙◌, ◌<◌, ◌^◌, ◌&&◌, ℕ, List, Bool, Option, None, Some, [], ◌∷◌, true, false, refl, ap, ap₂, sym, subst, arith, rules, true≢false, cond, codes, option_map}
use Rattle.std.specs.Prelude.{decimal, option_and_then, ◌==◌}
use Rattle.std.specs.Option.{is_some}
use Rattle.std.specs.Str.{is_utf8}
use Rattle.std.specs.List.{list_all}
use Rattle.std.proofs.lemmas.Bool.Decides.{nat_tests}
use Rattle.std.proofs.lemmas.Str.{IsUtf8-from_ascii, is_utf8-from_IsUtf8}
use Rattle.std.proofs.lemmas.Fmt.{IsAscii-decimal}
use Rattle.std.proofs.lemmas.Slice.Eq.{bytes_eq-Decides}
use Rattle.wh_base.specs.Lists.{same_text, where_true}
use Rattle.wh_base.specs.Values.{digits_number}
use Rattle.wh_base.specs.declared.values.Version.TheVariants.{One, Two}
use Rattle.def_output.specs.Output.{Checking, Form, Generating, Ordering, gen_number}
use Rattle.wh_words.proofs.Sales.{is_sales, range_of, same_of}
use Rattle.wh_words.specs.Words.{built, built_form, has_hyphen, is_plain, one_or_two}

order_is_plain : is_plain (codes "order") ≡ true
order_is_plain = is_utf8-from_IsUtf8 (codes "order") (IsUtf8-from_ascii (codes "order") (search rules))

one_is_plain : is_plain (codes "1") ≡ true
one_is_plain = is_utf8-from_IsUtf8 (codes "1") (IsUtf8-from_ascii (codes "1") (search rules))

gen_is_plain : is_plain (codes "gen") ≡ true
gen_is_plain = is_utf8-from_IsUtf8 (codes "gen") (IsUtf8-from_ascii (codes "gen") (search rules))

-- ---- a number of sales is plain

no_sign : (w : List ℕ) (n : ℕ) → digits_number w ≡ Some n → has_hyphen w ≡ false
no_sign [] n e = refl
no_sign (b ∷ bs) n e = go (b == 45) refl
  where
    go : (h : Bool) → (b == 45) ≡ h → h ≡ false
    go false t = refl
    go true t =
        let same : b ≡ 45 = grind (arith, nat_tests, t) in
        let none : digits_number (45 ∷ bs) ≡ Some n = subst (λ d. digits_number (d ∷ bs) ≡ Some n) same e in
        absurd (true≢false (ap is_some (sym none)))

sales_are_plain : (w : List ℕ) (n : ℕ) → digits_number w ≡ Some n → is_sales w n ≡ true → is_plain w ≡ true
sales_are_plain w n e stands =
    let few : n < 2 ^ 64 = omega (arith, range_of w n stands) in
    let utf8 : is_utf8 (decimal n) ≡ true = is_utf8-from_IsUtf8 (decimal n) (IsUtf8-from_ascii (decimal n) (IsAscii-decimal n few)) in
    let here : is_utf8 w ≡ true = subst (λ t. is_utf8 t ≡ true) (same_of w n stands) utf8 in
    rw (no_sign w n e, here) refl

no_sales : (w : List ℕ) (o : Option ℕ) → digits_number w ≡ o → is_plain w ≡ false → None ≡ option_and_then (λ n. where_true (is_sales w n) n) o
no_sales w None e flag = refl
no_sales w (Some n) e flag = go (is_sales w n) refl
  where
    go : (b : Bool) → is_sales w n ≡ b → None ≡ where_true b n
    go false t = refl
    go true t = absurd (true≢false (sym (sales_are_plain w n e t) ∙ flag))

-- ---- words that aren't plain name no form

abbrev built_one : Bool → Bool → Option Form
built_one order check = option_and_then built (cond order (Some (Ordering Two)) (where_true check Checking))

one_unplain : (w : List ℕ) (order check : Bool) → same_text w (codes "order") ≡ order → is_plain w ≡ false → None ≡ built_one order check
one_unplain w false false e flag = refl
one_unplain w false true e flag = refl
one_unplain w true check e flag =
    let same : w ≡ codes "order" = (bytes_eq-Decides w (codes "order")).0 e in
    absurd (true≢false (sym order_is_plain ∙ (ap is_plain (sym same) ∙ flag)))

abbrev built_two : Bool → Bool → Bool → Option ℕ → Option Form
built_two gen order one sales = option_and_then built (cond gen (option_map Generating sales) (where_true (order && one) (Ordering One)))

two_unplain : (w n : List ℕ) (gen order one : Bool) → same_text w (codes "gen") ≡ gen → same_text w (codes "order") ≡ order → same_text n (codes "1") ≡ one → (is_plain w && (is_plain n && true)) ≡ false → None ≡ built_two gen order one (gen_number n)
two_unplain w n false false one e f g flag = refl
two_unplain w n false true false e f g flag = refl
two_unplain w n false true true e f g flag =
    let first : is_plain w ≡ true = ap is_plain ((bytes_eq-Decides w (codes "order")).0 f) ∙ order_is_plain in
    let second : is_plain n ≡ true = ap is_plain ((bytes_eq-Decides n (codes "1")).0 g) ∙ one_is_plain in
    absurd (true≢false (sym (ap₂ (λ a b. a && (b && true)) first second) ∙ flag))
two_unplain w n true order one e f g flag =
    let same : w ≡ codes "gen" = (bytes_eq-Decides w (codes "gen")).0 e in
    let first : is_plain w ≡ true = ap is_plain same ∙ gen_is_plain in
    let second : is_plain n ≡ false = second_of (is_plain w) (is_plain n) first flag in
    ap (built_two true order one) (no_sales n (digits_number n) refl second)
  where
    second_of : (a b : Bool) → a ≡ true → (a && (b && true)) ≡ false → b ≡ false
    second_of true true t f = f
    second_of true false t f = refl
    second_of false b t f = absurd (true≢false (sym t))

plain_one : (b : Bool) → (b && true) ≡ false → b ≡ false
plain_one true e = e
plain_one false e = refl

unplain_none : (ws : List (List ℕ)) → list_all is_plain ws ≡ false → None ≡ built_form ws
unplain_none [] flag = refl
unplain_none (w ∷ []) flag = one_unplain w (same_text w (codes "order")) (same_text w (codes "check")) refl (plain_one (is_plain w) flag)
unplain_none (w ∷ n ∷ []) flag = two_unplain w n (same_text w (codes "gen")) (same_text w (codes "order")) (same_text n (codes "1")) refl refl refl flag
unplain_none (a ∷ b ∷ c ∷ more) flag = refl

-- ---- what the calls leave

none_of : (b : Bool) (ws : List (List ℕ)) → None ≡ where_true b ws → b ≡ false
none_of true ws e = absurd (true≢false (ap is_some (sym e)))
none_of false ws e = refl

pub not_plain : (ws : List (List ℕ)) → None ≡ where_true (list_all is_plain ws) ws → None ≡ built_form ws
not_plain ws e = unplain_none ws (none_of (list_all is_plain ws) ws e)

some_of : (b : Bool) (ws ts : List (List ℕ)) → Some ts ≡ where_true b ws → (b ≡ true) × (ts ≡ ws)
some_of true ws ts e = (refl, some_same e)
  where
    some_same : {X : Type 0} {x y : X} → Some x ≡ Some y → x ≡ y
    some_same {X} {x} {y} h = ap (λ o. Rattle.std.specs.Option.unwrap_or o x) h
some_of false ws ts e = absurd (true≢false (ap is_some e))

pub texts_are_plain : (ws ts : List (List ℕ)) → Some ts ≡ where_true (list_all is_plain ws) ws → list_all is_plain ts ≡ true
texts_are_plain ws ts e =
    let known = some_of (list_all is_plain ws) ws ts e in
    ap (list_all is_plain) known.1 ∙ known.0

not_few_none : (ts : List (List ℕ)) → None ≡ one_or_two ts → None ≡ built_form ts
not_few_none [] e = refl
not_few_none (w ∷ []) e = absurd (true≢false (ap is_some (sym e)))
not_few_none (w ∷ n ∷ []) e = absurd (true≢false (ap is_some (sym e)))
not_few_none (a ∷ b ∷ c ∷ more) e = refl

pub not_few : (ws ts : List (List ℕ)) → Some ts ≡ where_true (list_all is_plain ws) ws → None ≡ one_or_two ts → None ≡ built_form ws
not_few ws ts e none = not_few_none ts none ∙ ap built_form (some_of (list_all is_plain ws) ws ts e).1

same_words : (ps ts : List (List ℕ)) → Some ps ≡ one_or_two ts → ps ≡ ts
same_words ps [] e = absurd (true≢false (ap is_some e))
same_words ps (w ∷ []) e = ap (λ o. Rattle.std.specs.Option.unwrap_or o ps) e
same_words ps (w ∷ n ∷ []) e = ap (λ o. Rattle.std.specs.Option.unwrap_or o ps) e
same_words ps (a ∷ b ∷ c ∷ more) e = absurd (true≢false (ap is_some e))

pub named_words : (ws ts ps : List (List ℕ)) (r : Option Form) → Some ts ≡ where_true (list_all is_plain ws) ws → Some ps ≡ one_or_two ts → r ≡ built_form ps → r ≡ built_form ws
named_words ws ts ps r e few is = is ∙ ap built_form (same_words ps ts few ∙ (some_of (list_all is_plain ws) ws ts e).1)

pub ruleset forms = (not_plain, texts_are_plain, not_few, named_words)
