-- Columns that a SET list sets twice: one turn of a loop over its places.
use Rattle.std.proofs.Common.{◌≡◌, ◌∙◌, sym, ap, subst, ℕ, ◌+◌, ◌<◌, List, [], length, map, drop, take, get_or, Bool, true, false, Some}
use Rattle.std.proofs.lemmas.List.{get_or-map, length-map, take-map}
use Rattle.wh_base.specs.Lists.{has_text, repeated_after, same_text}
use Rattle.wh_base.specs.declared.statements.SetColumn.{SetColumn}
use Rattle.wh_dml.proofs.Names.{repeats_off, repeats_on, turned}

-- the columns that are set
abbrev pub columns_set : List SetColumn → List (List ℕ)
columns_set ss = map (λ s. s.column) ss

within : (ss : List SetColumn) (i : ℕ) → i < length ss → i < length (columns_set ss)
within ss i h = subst (λ n. i < n) (sym (length-map ss (λ s. s.column))) h

item_is : (ss : List SetColumn) (i : ℕ) (s : SetColumn) → i < length ss → s ≡ get_or ss i s → s.column ≡ get_or (columns_set ss) i s.column
item_is ss i s h e = ap (λ t. t.column) e ∙ sym (get_or-map (λ t. t.column) ss i s s.column h)

earlier : (ss : List SetColumn) (i : ℕ) (name : List ℕ) (b : Bool) → has_text (columns_set (take i ss)) name ≡ b → has_text (take i (columns_set ss)) name ≡ b
earlier ss i name b e = ap (λ ns. has_text ns name) (take-map (λ s. s.column) i ss) ∙ e

pub set_once : (ss : List SetColumn) (i : ℕ) (s : SetColumn) → i < length ss → s ≡ get_or ss i s → has_text (columns_set (take i ss)) s.column ≡ false
    → repeated_after same_text (turned [] (take i (columns_set ss))) (drop i (columns_set ss)) ≡ repeated_after same_text (turned [] (take (i + 1) (columns_set ss))) (drop (i + 1) (columns_set ss))
set_once ss i s h e none = repeats_on (columns_set ss) i s.column (within ss i h) (item_is ss i s h e) (earlier ss i s.column false none)

pub set_again : (ss : List SetColumn) (i : ℕ) (s : SetColumn) → i < length ss → s ≡ get_or ss i s → has_text (columns_set (take i ss)) s.column ≡ true
    → repeated_after same_text (turned [] (take i (columns_set ss))) (drop i (columns_set ss)) ≡ Some s.column
set_again ss i s h e some = repeats_off (columns_set ss) i s.column (within ss i h) (item_is ss i s h e) (earlier ss i s.column true some)

pub ruleset repeats = (set_once, set_again)
