-- What holds of each result of a step that may be refused.
use Rattle.std.proofs.Common.{◌≡◌, refl, subst, Bool, true, false, cond, List, ◌∷◌, Option, None, Some}
use Rattle.std.specs.Prelude.{Err, Ok, Result}
use Rattle.wh_base.specs.Lists.{first_some, option_case, or_refuse, unless, unless_then, where_true, ◌>>=◌}
use Rattle.def_journal.specs.State.{State, Step}
pub use Rattle.law_lists.proofs.Options.{none_where}

-- P of the value, where there is one
abbrev pub EachOk : {A E : Type 0} → (A → Type 0) → Result A E → Type 0
EachOk P (Ok x) = P x
EachOk P (Err e) = Unit {0}

pub bind_ok : {A B E : Type 0} (Q : B → Type 0) (r : Result A E) (f : A → Result B E) → ((x : A) → r ≡ Ok x → EachOk Q (f x)) → EachOk Q (r >>= f)
bind_ok Q (Ok x) f k = k x refl
bind_ok Q (Err e) f k = tt

pub unless_ok : {A E : Type 0} (Q : A → Type 0) (o : Option E) (x : A) → (o ≡ None → Q x) → EachOk Q (unless o x)
unless_ok Q None x k = k refl
unless_ok Q (Some e) x k = tt

pub unless_then_ok : {A E : Type 0} (Q : A → Type 0) (o : Option E) (r : Result A E) → (o ≡ None → EachOk Q r) → EachOk Q (unless_then o r)
unless_then_ok Q None r k = k refl
unless_then_ok Q (Some e) r k = tt

pub unless_bind : {A B E : Type 0} (Q : B → Type 0) (o : Option E) (x : A) (f : A → Result B E) → (o ≡ None → EachOk Q (f x)) → EachOk Q (unless o x >>= f)
unless_bind Q None x f k = k refl
unless_bind Q (Some e) x f k = tt

pub ok_holds : {A E : Type 0} (Q : A → Type 0) (r : Result A E) (x : A) → EachOk Q r → r ≡ Ok x → Q x
ok_holds Q r x h same = subst (EachOk Q) same h

-- where nothing refuses, the first test doesn't
pub first_none : {A : Type 0} (b : Bool) (x : A) (rest : List (Option A)) → first_some (where_true b x ∷ rest) ≡ None → b ≡ false
first_none true x rest e = absurd (cc)
first_none false x rest e = refl

-- ---- of the state that a step leaves

pub cond_step : (P : State → Type 0) (b : Bool) (one other : Step) → (b ≡ true → P one.state) → (b ≡ false → P other.state) → P (cond b one other).state
cond_step P true one other h k = h refl
cond_step P false one other h k = k refl

pub option_step : {A : Type 0} (P : State → Type 0) (o : Option A) (none : Step) (some : A → Step) → P none.state → ((x : A) → o ≡ Some x → P (some x).state) → P (option_case o none some).state
option_step P None none some h k = h
option_step P (Some x) none some h k = k x refl

pub refused_not : {A E : Type 0} (o : Option A) (e : E) (x : A) → or_refuse o e ≡ Ok x → o ≡ Some x
refused_not None e x h = cc
refused_not (Some y) e x h = cc
