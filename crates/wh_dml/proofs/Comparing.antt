-- Literals that a column is compared with.
use Rattle.std.proofs.Common.{◌≡◌, ◌∙◌, sym, ap, refl, List, [], ◌∷◌, true, false, map, not, Option, Some, None, ◌||◌}
use Rattle.std.specs.List.{list_any}
use Rattle.def_effect.specs.Block.{sorts_refusal}
use Rattle.def_resolve.specs.Kinds.{agrees, literal_sort, part_sort, printed_part}
use Rattle.wh_base.specs.Lists.{where_true}
use Rattle.wh_base.specs.declared.columns.ColRef.{ColRef}
use Rattle.wh_base.specs.declared.replies.Refusal.{Refusal}
use Rattle.wh_base.specs.declared.replies.Refusal.TheVariants.{ValueDoesNotFit}
use Rattle.wh_base.specs.declared.tables.TableDef.{TableDef}
use Rattle.wh_base.specs.declared.values.Literal.{Literal}

differ : (d : TableDef) (c : ColRef) (ls : List Literal) → list_any (λ s. not (agrees (part_sort d c.part) s)) (map literal_sort ls) ≡ list_any (λ l. not (agrees (part_sort d c.part) (literal_sort l))) ls
differ d c [] = refl
differ d c (l ∷ ls) = ap (λ b. not (agrees (part_sort d c.part) (literal_sort l)) || b) (differ d c ls)

pub all_agree : (d : TableDef) (c : ColRef) (ls : List Literal) → list_any (λ l. not (agrees (part_sort d c.part) (literal_sort l))) ls ≡ false → None ≡ sorts_refusal d c (map literal_sort ls)
all_agree d c ls e = sym (ap (λ b. where_true b (ValueDoesNotFit d.name (printed_part d c.part))) (differ d c ls ∙ e))

pub one_differs : (d : TableDef) (c : ColRef) (ls : List Literal) (r : Option Refusal) → list_any (λ l. not (agrees (part_sort d c.part) (literal_sort l))) ls ≡ true → r ≡ Some (ValueDoesNotFit d.name (printed_part d c.part)) → r ≡ sorts_refusal d c (map literal_sort ls)
one_differs d c ls r e is = is ∙ sym (ap (λ b. where_true b (ValueDoesNotFit d.name (printed_part d c.part))) (differ d c ls ∙ e))

pub ruleset comparing = (all_agree, one_differs)
