-- What a change of a table keeps of the tables.
use Rattle.std.proofs.Common.{◌≡◌, ◌∙◌, sym, ap, refl, subst, arith, ℕ, zero, suc, ◌+◌, ◌-◌, ◌<◌, ◌≤◌, ◌^◌, List, [], ◌∷◌, ◌++◌, length, Option, None, Some, IfSome, slice_get, slice_set, slice_index_or, zero-le}
use Rattle.std.proofs.lemmas.List.{length_push, map-append}
use Rattle.std.proofs.lemmas.List.Elements.{All-push}
use Rattle.std.proofs.lemmas.Option.{none-some, same_Some, slice_get-get_or}
use Rattle.std.specs.Prelude.{Err, Ok, OnErr, OnOk, Result}
use Rattle.wh_base.specs.Tables.{most_live}
use Rattle.wh_base.specs.declared.tables.Part.{Part}
use Rattle.wh_base.specs.declared.tables.TableDef.{TableDef}
use Rattle.wh_base.specs.declared.values.Value.{Value}
use Rattle.wh_table.specs.Kept.{AreKept, LivesIn, defs_of, with_change}
use Rattle.wh_table.specs.Stored.{IsSmallRow, IsStored, Stored, begun, deleted, inserted, last_scn, live_count, updated}
use Rattle.wh_table.proofs.Counting.{all_from, each_from, each_get}
use Rattle.wh_table.proofs.Keeping.{LivesAt, kept_begun, kept_deleted, kept_inserted, kept_updated, last_deleted, last_inserted, last_updated, live_version}
use Rattle.wh_table.proofs.Ordered.{Each}

-- the table with this index
pub table_is : (tables : List Stored) (n : ℕ) (s : Stored) → n < length tables → s ≡ slice_index_or tables n s → slice_get tables n ≡ Some s
table_is tables n s h is = slice_get-get_or tables n s h ∙ ap Some (sym is)

pub if_there : (tables : List Stored) (n : ℕ) (s : Stored) (P : Stored → Type 0) → slice_get tables n ≡ Some s → IfSome (slice_get tables n) P → P s
if_there tables n s P e h = subst (λ o. IfSome o P) e h

pub set_changed : (change : Stored → Stored) (tables : List Stored) (n : ℕ) (s t : Stored) → slice_get tables n ≡ Some s → t ≡ change s → slice_set tables n t ≡ with_change n change tables
set_changed change [] n s t e is = absurd (none-some s e)
set_changed change (u ∷ tables) zero s t e is = ap (λ v. v ∷ tables) (is ∙ ap change (sym (same_Some u s e)))
set_changed change (u ∷ tables) (suc n) s t e is = ap (λ rest. u ∷ rest) (set_changed change tables n s t e is)

pub set_same : (tables : List Stored) (n : ℕ) (s t : Stored) → slice_get tables n ≡ Some s → t ≡ s → slice_set tables n t ≡ tables
set_same [] n s t e is = absurd (none-some s e)
set_same (u ∷ tables) zero s t e is = ap (λ v. v ∷ tables) (is ∙ sym (same_Some u s e))
set_same (u ∷ tables) (suc n) s t e is = ap (λ rest. u ∷ rest) (set_same tables n s t e is)

-- what holds of the list after a call that changed it where it is Ok, and left it as it was where it is Err
pub either_way : {T E : Type 0} (r : Result T E) (new changed old : List Stored) (P : List Stored → Type 0) → OnOk r (new ≡ changed) → OnErr r (new ≡ old) → P changed → P old → P new
either_way (Ok x) new changed old P ok err p q = subst P (sym ok) p
either_way (Err e) new changed old P ok err p q = subst P (sym err) q

-- the same where Ok also says something that it rests on
pub either_way_by : {T E : Type 0} (r : Result T E) (new changed old : List Stored) (F : Type 0) (P : List Stored → Type 0) → OnOk r F → OnOk r (new ≡ changed) → OnErr r (new ≡ old) → (F → P changed) → P old → P new
either_way_by (Ok x) new changed old F P by_ok ok err p q = subst P (sym ok) (p by_ok)
either_way_by (Err e) new changed old F P by_ok ok err p q = subst P (sym err) q

-- one place more was left in the table with this number
abbrev pub HasPlace : List Stored → ℕ → Type 0
HasPlace tables n = IfSome (slice_get tables n) (λ s. length s.versions < 2 ^ 32 - 1)

-- ---- what is kept

each_change : (P : Stored → Type 0) (change : Stored → Stored) (tables : List Stored) (n : ℕ) → Each P tables → ((s : Stored) → slice_get tables n ≡ Some s → P s → P (change s)) → Each P (with_change n change tables)
each_change P change [] n h f = tt
each_change P change (s ∷ tables) zero h f = (f s refl h.0, h.1)
each_change P change (s ∷ tables) (suc n) h f = (h.0, each_change P change tables n h.1 f)

length_change : (change : Stored → Stored) (tables : List Stored) (n : ℕ) → length (with_change n change tables) ≡ length tables
length_change change [] n = refl
length_change change (s ∷ tables) zero = refl
length_change change (s ∷ tables) (suc n) = ap suc (length_change change tables n)

-- a table as its calls leave it, not changed after an SCN
abbrev pub IsSettled : ℕ → Stored → Type 0
IsSettled scn s = IsStored s × (last_scn s.versions ≤ scn)

both_each : (scn : ℕ) (tables : List Stored) → Each IsStored tables → Each (λ s. last_scn s.versions ≤ scn) tables → Each (IsSettled scn) tables
both_each scn [] h k = tt
both_each scn (s ∷ tables) h k = ((h.0, k.0), both_each scn tables h.1 k.1)

first_each : (scn : ℕ) (tables : List Stored) → Each (IsSettled scn) tables → Each IsStored tables
first_each scn [] h = tt
first_each scn (s ∷ tables) h = (h.0.0, first_each scn tables h.1)

second_each : (scn : ℕ) (tables : List Stored) → Each (IsSettled scn) tables → Each (λ s. last_scn s.versions ≤ scn) tables
second_each scn [] h = tt
second_each scn (s ∷ tables) h = (h.0.1, second_each scn tables h.1)

defs_change : (change : Stored → Stored) (tables : List Stored) (n : ℕ) → ((s : Stored) → (change s).def ≡ s.def) → defs_of (with_change n change tables) ≡ defs_of tables
defs_change change [] n f = refl
defs_change change (s ∷ tables) zero f = ap (λ d. d ∷ defs_of tables) (f s)
defs_change change (s ∷ tables) (suc n) f = ap (λ ds. s.def ∷ ds) (defs_change change tables n f)

kept_change : (scn : ℕ) (change : Stored → Stored) (tables : List Stored) (defs : List TableDef) (parts : List Part) (n : ℕ) → AreKept scn tables defs parts → ((s : Stored) → (change s).def ≡ s.def)
    → ((s : Stored) → slice_get tables n ≡ Some s → IsSettled scn s → IsSettled scn (change s)) → AreKept scn (with_change n change tables) defs parts
kept_change scn change tables defs parts n h same f =
    let all : Each (IsSettled scn) (with_change n change tables) =
    each_change (IsSettled scn) change tables n (both_each scn tables (each_from IsStored tables h.stored) (each_from (λ s. last_scn s.versions ≤ scn) tables h.settled)) f in
    record {
      stored = all_from IsStored (with_change n change tables) (first_each scn (with_change n change tables) all);
      settled = all_from (λ s. last_scn s.versions ≤ scn) (with_change n change tables) (second_each scn (with_change n change tables) all);
      few = subst (λ m. m < 2 ^ 32) (sym (length_change change tables n)) h.few;
      listed = h.listed ∙ sym (defs_change change tables n same);
      none = h.none;
    }

pub kept_insert : (scn : ℕ) (tables : List Stored) (defs : List TableDef) (parts : List Part) (n : ℕ) (values : List Value) → AreKept scn tables defs parts
    → IfSome (slice_get tables n) (λ s. live_count s < most_live) → HasPlace tables n → IsSmallRow values → AreKept scn (with_change n (inserted scn values) tables) defs parts
kept_insert scn tables defs parts n values h room few small =
    kept_change scn (inserted scn values) tables defs parts n h (λ s. refl)
    (λ s e k. (kept_inserted s scn values k.0 k.1 (if_there tables n s (λ s. live_count s < most_live) e room) (if_there tables n s (λ s. length s.versions < 2 ^ 32 - 1) e few) small, last_inserted s scn values k.1))

pub kept_delete : (scn : ℕ) (tables : List Stored) (defs : List TableDef) (parts : List Part) (n place : ℕ) → AreKept scn tables defs parts → LivesIn tables n place
    → AreKept scn (with_change n (deleted scn place) tables) defs parts
kept_delete scn tables defs parts n place h lives =
    kept_change scn (deleted scn place) tables defs parts n h (λ s. refl)
    (λ s e k. (let v = live_version s.versions place (if_there tables n s (λ s. LivesAt s.versions place) e lives) in
    (kept_deleted s scn place v.0 k.0 k.1 v.1.0 v.1.1, last_deleted s scn place v.0 v.1.0 v.1.1 k.1)))

pub kept_update : (scn : ℕ) (tables : List Stored) (defs : List TableDef) (parts : List Part) (n place : ℕ) (values : List Value) → AreKept scn tables defs parts → LivesIn tables n place → HasPlace tables n → IsSmallRow values
    → AreKept scn (with_change n (updated scn place values) tables) defs parts
kept_update scn tables defs parts n place values h lives few small =
    kept_change scn (updated scn place values) tables defs parts n h (λ s. refl)
    (λ s e k. (let v = live_version s.versions place (if_there tables n s (λ s. LivesAt s.versions place) e lives) in
    (kept_updated s scn place values v.0 k.0 k.1 v.1.0 v.1.1 (if_there tables n s (λ s. length s.versions < 2 ^ 32 - 1) e few) small, last_updated s scn place values v.0 v.1.0 v.1.1 k.1)))

-- the table with this number wasn't changed after the SCN
pub settled_there : (scn : ℕ) (tables : List Stored) (defs : List TableDef) (parts : List Part) (n : ℕ) (s : Stored) → AreKept scn tables defs parts → slice_get tables n ≡ Some s → last_scn s.versions ≤ scn
settled_there scn tables defs parts n s h e = each_get (λ s. last_scn s.versions ≤ scn) tables n s e (each_from (λ s. last_scn s.versions ≤ scn) tables h.settled)

pub settled_if : (scn : ℕ) (tables : List Stored) (defs : List TableDef) (parts : List Part) (n : ℕ) → AreKept scn tables defs parts → IfSome (slice_get tables n) (λ s. last_scn s.versions ≤ scn)
settled_if scn tables defs parts n h = by (slice_get tables n) refl
  where
    by : (o : Option Stored) → slice_get tables n ≡ o → IfSome o (λ s. last_scn s.versions ≤ scn)
    by None e = tt
    by (Some s) e = settled_there scn tables defs parts n s h e

pub kept_raised : (scn : ℕ) (tables : List Stored) (defs : List TableDef) (parts : List Part) → AreKept scn tables defs parts → AreKept (scn + 1) tables defs parts
kept_raised scn tables defs parts h = record {
  stored = h.stored;
  settled = λ k d l. (let before = h.settled k d l in omega (arith, before));
  few = h.few;
  listed = h.listed;
  none = h.none;
}

begun_settled : (scn : ℕ) (def : TableDef) → last_scn (begun def).versions ≤ scn
begun_settled scn def = zero-le

pub kept_pushed : (scn : ℕ) (tables : List Stored) (defs : List TableDef) (parts : List Part) (def : TableDef) → AreKept scn tables defs parts → length tables < 2 ^ 32 - 1
    → AreKept scn (tables ++ begun def ∷ []) (defs ++ def ∷ []) parts
kept_pushed scn tables defs parts def h few = record {
  stored = All-push IsStored tables (begun def) h.stored (kept_begun def);
  settled = All-push (λ s. last_scn s.versions ≤ scn) tables (begun def) h.settled (begun_settled scn def);
  few = (let pushed = length_push tables (begun def) in omega (arith, pushed, few));
  listed = ap (λ ds. ds ++ def ∷ []) h.listed ∙ sym (map-append (λ (s : Stored). s.def) tables (begun def ∷ []));
  none = h.none;
}

-- after `push_table`
pub pushed_kept : (scn : ℕ) (tables new : List Stored) (defs more : List TableDef) (parts : List Part) (s : Stored) (def : TableDef) → AreKept scn tables defs parts → s ≡ begun def → more ≡ defs ++ def ∷ []
    → new ≡ tables ++ s ∷ [] → length tables < 2 ^ 32 - 1 → AreKept scn new more parts
pushed_kept scn tables new defs more parts s def h is listed pushed few =
    let list : new ≡ tables ++ begun def ∷ [] = pushed ∙ ap (λ t. tables ++ t ∷ []) is in
    subst (λ ts. AreKept scn ts more parts) (sym list) (subst (λ ds. AreKept scn (tables ++ begun def ∷ []) ds parts) (sym listed) (kept_pushed scn tables defs parts def h few))

pub kept_same : (scn : ℕ) (tables new : List Stored) (defs : List TableDef) (parts : List Part) → AreKept scn tables defs parts → new ≡ tables → AreKept scn new defs parts
kept_same scn tables new defs parts h e = subst (λ ts. AreKept scn ts defs parts) (sym e) h

pub ruleset changing = (kept_raised, settled_if, kept_same)
