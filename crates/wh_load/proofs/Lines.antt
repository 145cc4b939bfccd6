-- The fields of a line beside its columns, one by one.
use Rattle.std.proofs.Common.{Result, Ok, Err, true, ◌≤◌, zero, suc, arith, ◌≡◌, ◌∙◌, sym, ap, refl, ℕ, ◌+◌, ◌<◌, ◌++◌, false, List, [], ◌∷◌, map, length, drop, get_or, Option, Some, None, append_assoc}
use Rattle.std.proofs.lemmas.List.{drop_more}
use Rattle.std.specs.Prelude.{is_none, option_map, unwrap_or, zip}
use Rattle.def_effect.specs.Block.{field_misfits, field_value}
use Rattle.wh_base.specs.Lists.{first_of, first_some, unless, where_true}
use Rattle.wh_base.specs.declared.replies.Refusal.{Refusal}
use Rattle.wh_base.specs.declared.replies.Refusal.TheVariants.{ValueDoesNotFit}
use Rattle.wh_base.specs.declared.tables.ColumnDef.{ColumnDef}
use Rattle.wh_base.specs.declared.tables.TableDef.{TableDef}
use Rattle.wh_base.specs.declared.values.Value.{Value}
use Rattle.wh_base.specs.declared.values.Value.TheVariants.{Null}
use Rattle.wh_load.specs.Capped.{capped, line_loaded, loaded_value}

cut : (cs : List ColumnDef) (fs : List (List ℕ)) (at : ℕ) (c : ColumnDef) (f : List ℕ) → at < length cs → at < length fs → c ≡ get_or cs at c → f ≡ get_or fs at f
    → zip (drop at cs) (drop at fs) ≡ (c, f) ∷ zip (drop (at + 1) cs) (drop (at + 1) fs)
cut cs fs at c f less more same field =
    (λ i. zip (drop_more cs at c less i) (drop_more fs at f more i))
    ∙ (λ i. (sym same i, sym field i) ∷ zip (drop (at + 1) cs) (drop (at + 1) fs))

value_is : (o : Option Value) (v : Value) → Some v ≡ option_map capped o → v ≡ capped (unwrap_or o Null)
value_is None v e = cc
value_is (Some w) v e = cc

is_there : (o : Option Value) (v : Value) → Some v ≡ option_map capped o → is_none o ≡ false
is_there None v e = cc
is_there (Some w) v e = refl

-- one value more
pub line_on : {whole : List Value} (cs : List ColumnDef) (fs : List (List ℕ)) (at : ℕ) (c : ColumnDef) (f : List ℕ) (v : Value) (values pushed : List Value)
    → at < length cs → at < length fs → c ≡ get_or cs at c → f ≡ get_or fs at f → Some v ≡ option_map capped (field_value c.kind f) → pushed ≡ values ++ v ∷ []
    → values ++ map capped (map loaded_value (zip (drop at cs) (drop at fs))) ≡ whole → pushed ++ map capped (map loaded_value (zip (drop (at + 1) cs) (drop (at + 1) fs))) ≡ whole
line_on cs fs at c f v values pushed less more same field e push h =
    let rest : List Value = map capped (map loaded_value (zip (drop (at + 1) cs) (drop (at + 1) fs))) in
    let here : v ≡ capped (loaded_value (c, f)) = value_is (field_value c.kind f) v e in
    ap (λ vs. vs ++ rest) push
    ∙ append_assoc values (v ∷ []) rest
    ∙ ap (λ w. values ++ w ∷ rest) here
    ∙ sym (ap (λ ps. values ++ map capped (map loaded_value ps)) (cut cs fs at c f less more same field))
    ∙ h

-- one field more that is of its column's kind
pub none_on : {whole : Option Refusal} (d : TableDef) (cs : List ColumnDef) (fs : List (List ℕ)) (at : ℕ) (c : ColumnDef) (f : List ℕ) (v : Value)
    → at < length cs → at < length fs → c ≡ get_or cs at c → f ≡ get_or fs at f → Some v ≡ option_map capped (field_value c.kind f)
    → first_of (field_misfits d) (zip (drop at cs) (drop at fs)) ≡ whole → first_of (field_misfits d) (zip (drop (at + 1) cs) (drop (at + 1) fs)) ≡ whole
none_on d cs fs at c f v less more same field e h =
    let rest : List (ColumnDef × List ℕ) = zip (drop (at + 1) cs) (drop (at + 1) fs) in
    let fits : is_none (field_value c.kind f) ≡ false = is_there (field_value c.kind f) v e in
    sym (ap (λ b. first_some (where_true b (ValueDoesNotFit d.name c.name) ∷ map (field_misfits d) rest)) fits)
    ∙ sym (ap (first_of (field_misfits d)) (cut cs fs at c f less more same field))
    ∙ h

is_gone : (o : Option Value) → None ≡ option_map capped o → is_none o ≡ true
is_gone None e = refl
is_gone (Some w) e = cc

drop_past : {X : Type 0} (xs : List X) (n : ℕ) → length xs ≤ n → drop n xs ≡ []
drop_past [] zero h = refl
drop_past [] (suc n) h = refl
drop_past (x ∷ xs) zero h = absurd (omega arith)
drop_past (x ∷ xs) (suc n) h = drop_past xs n (omega arith)

append_none : {X : Type 0} (xs : List X) → xs ++ [] ≡ xs
append_none [] = refl
append_none (x ∷ xs) = ap (λ ys. x ∷ ys) (append_none xs)

next_is : {X : Type 0} (xs : List X) (at : ℕ) (x : X) → at < length xs → x ≡ get_or xs at x → drop at xs ≡ x ∷ drop (at + 1) xs
next_is xs at x less is = drop_more xs at x less ∙ ap (λ y. y ∷ drop (at + 1) xs) (sym is)

-- the first field that is of another kind than its column
pub line_refused : (d : TableDef) (cs : List ColumnDef) (fs : List (List ℕ)) (at : ℕ) (c b : ColumnDef) (f name : List ℕ) (r : Refusal)
    → at < length cs → at < length fs → c ≡ get_or cs at c → b ≡ get_or cs at b → f ≡ get_or fs at f → None ≡ option_map capped (field_value c.kind f) → r ≡ ValueDoesNotFit d.name name → name ≡ b.name
    → first_of (field_misfits d) (zip (drop at cs) (drop at fs)) ≡ first_of (field_misfits d) (zip cs fs) → Err r ≡ line_loaded d cs fs
line_refused d cs fs at c b f name r less more same again field e refusal named h =
    let rest : List (ColumnDef × List ℕ) = zip (drop (at + 1) cs) (drop (at + 1) fs) in
    let gone : is_none (field_value c.kind f) ≡ true = is_gone (field_value c.kind f) e in
    let one : drop at cs ≡ b ∷ drop (at + 1) cs = next_is cs at b less again in
    let two : drop at cs ≡ c ∷ drop (at + 1) cs = next_is cs at c less same in
    let column : b ≡ c = cc in
    let first : first_of (field_misfits d) (zip cs fs) ≡ Some (ValueDoesNotFit d.name c.name) =
    sym h
    ∙ ap (first_of (field_misfits d)) (cut cs fs at c f less more same field)
    ∙ ap (λ t. first_some (where_true t (ValueDoesNotFit d.name c.name) ∷ map (field_misfits d) rest)) gone in
    let left : ◌≡◌ {A = Result (List Value) Refusal} (Err r) (Err (ValueDoesNotFit d.name c.name)) =
    ap Err (refusal ∙ ap (ValueDoesNotFit d.name) (named ∙ ap (λ (x : ColumnDef). x.name) column)) in
    left ∙ sym (ap (λ o. unless o (map capped (map loaded_value (zip cs fs)))) first)

pub line_end : (d : TableDef) (cs : List ColumnDef) (fs : List (List ℕ)) (at : ℕ) (values all : List Value) → length cs ≤ at → all ≡ values
    → values ++ map capped (map loaded_value (zip (drop at cs) (drop at fs))) ≡ map capped (map loaded_value (zip cs fs))
    → first_of (field_misfits d) (zip (drop at cs) (drop at fs)) ≡ first_of (field_misfits d) (zip cs fs) → Ok all ≡ line_loaded d cs fs
line_end d cs fs at values all past same done none =
    let over : drop at cs ≡ [] = drop_past cs at past in
    let read : values ≡ map capped (map loaded_value (zip cs fs)) = sym (append_none values) ∙ sym (ap (λ xs. values ++ map capped (map loaded_value (zip xs (drop at fs)))) over) ∙ done in
    let nothing : first_of (field_misfits d) (zip cs fs) ≡ None = sym none ∙ ap (λ xs. first_of (field_misfits d) (zip xs (drop at fs))) over in
    let left : ◌≡◌ {A = Result (List Value) Refusal} (Ok all) (Ok (map capped (map loaded_value (zip cs fs)))) = ap Ok (same ∙ read) in
    left ∙ sym (ap (λ o. unless o (map capped (map loaded_value (zip cs fs)))) nothing)

-- ---- the rows one by one

kept_parts : {Y E : Type 0} (o : Option E) (v w : Y) → Ok w ≡ unless o v → (o ≡ None) × (w ≡ v)
kept_parts None v w e = (refl, cc)
kept_parts (Some r) v w e = (cc, cc)

refused_part : {Y E : Type 0} (o : Option E) (v : Y) (r : E) → Err r ≡ unless o v → o ≡ Some r
refused_part None v r e = cc
refused_part (Some s) v r e = cc

pub row_kept : {X Y E : Type 0} {whole : List Y} (refuse : X → Option E) (f : X → Y) (xs : List X) (at : ℕ) (x : X) (y : Y) (done pushed : List Y) → at < length xs → x ≡ get_or xs at x
    → Ok y ≡ unless (refuse x) (f x) → pushed ≡ done ++ y ∷ [] → done ++ map f (drop at xs) ≡ whole → pushed ++ map f (drop (at + 1) xs) ≡ whole
row_kept refuse f xs at x y done pushed less is e push h =
    let value : y ≡ f x = (kept_parts (refuse x) (f x) y e).1 in
    ap (λ vs. vs ++ map f (drop (at + 1) xs)) push
    ∙ append_assoc done (y ∷ []) (map f (drop (at + 1) xs))
    ∙ ap (λ w. done ++ w ∷ map f (drop (at + 1) xs)) value
    ∙ sym (ap (λ ys. done ++ map f ys) (next_is xs at x less is))
    ∙ h

pub row_none : {X Y E : Type 0} {whole : Option E} (refuse : X → Option E) (f : X → Y) (xs : List X) (at : ℕ) (x : X) (y : Y) → at < length xs → x ≡ get_or xs at x
    → Ok y ≡ unless (refuse x) (f x) → first_of refuse (drop at xs) ≡ whole → first_of refuse (drop (at + 1) xs) ≡ whole
row_none refuse f xs at x y less is e h =
    sym (ap (λ o. first_some (o ∷ map refuse (drop (at + 1) xs))) (kept_parts (refuse x) (f x) y e).0)
    ∙ sym (ap (first_of refuse) (next_is xs at x less is))
    ∙ h

pub row_refused : {X Y E : Type 0} (refuse : X → Option E) (f : X → Y) (xs : List X) (at : ℕ) (x : X) (r : E) → at < length xs → x ≡ get_or xs at x
    → Err r ≡ unless (refuse x) (f x) → first_of refuse (drop at xs) ≡ first_of refuse xs → Err r ≡ unless (first_of refuse xs) (map f xs)
row_refused refuse f xs at x r less is e h =
    let first : first_of refuse xs ≡ Some r =
    sym h ∙ ap (first_of refuse) (next_is xs at x less is) ∙ ap (λ o. first_some (o ∷ map refuse (drop (at + 1) xs))) (refused_part (refuse x) (f x) r e) in
    sym (ap (λ o. unless o (map f xs)) first)

pub rows_end : {X Y E : Type 0} (refuse : X → Option E) (f : X → Y) (xs : List X) (at : ℕ) (done all : List Y) → length xs ≤ at → all ≡ done
    → done ++ map f (drop at xs) ≡ map f xs → first_of refuse (drop at xs) ≡ first_of refuse xs → Ok all ≡ unless (first_of refuse xs) (map f xs)
rows_end {Y = Y} {E = E} refuse f xs at done all past same read none =
    let over : drop at xs ≡ [] = drop_past xs at past in
    let values : done ≡ map f xs = sym (append_none done) ∙ sym (ap (λ ys. done ++ map f ys) over) ∙ read in
    let nothing : first_of refuse xs ≡ None = sym none ∙ ap (first_of refuse) over in
    let left : ◌≡◌ {A = Result (List Y) E} (Ok all) (Ok (map f xs)) = ap Ok (same ∙ values) in
    left ∙ sym (ap (λ o. unless o (map f xs)) nothing)
