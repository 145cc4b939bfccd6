-- The premises hold of a small catalog: they aren't empty.
use Rattle.std.proofs.Common.{refl, true, false, ◌≡◌, [], ◌∷◌}
use Rattle.wh_base.specs.Tables.{defs_of}
use Rattle.def_meaning.specs.Joined.{rows_at}
use Rattle.law_rewrite.specs.Words.{Each}
use Rattle.law_rewrite.specs.Kept.{TableKept}
use Rattle.law_rewrite.specs.Fine.{RowsFine, StarFine}
use Rattle.law_rewrite.proofs.Moved.{asked, dim_def, fact_def, now, stored_query}
use Rattle.law_rewrite.proofs.Owed.{rows_fine_of}

asked_fine : StarFine (fact_def ∷ dim_def ∷ []) asked
asked_fine = record {
  tree = (refl, refl);
  columns = ((refl, refl), ((refl, refl), ((refl, refl), ((refl, refl), ((refl, refl), ((refl, refl), tt))))));
  literals = (refl, (refl, tt));
  selected = λ h. absurd (let e : false ≡ true = h in cc);
  alone = λ h. (tt, (tt, tt));
}

stored_fine : StarFine (fact_def ∷ dim_def ∷ []) stored_query
stored_fine = record {
  tree = (refl, refl);
  columns = ((refl, refl), ((refl, refl), tt));
  literals = tt;
  selected = λ h. absurd (let e : false ≡ true = h in cc);
  alone = λ h. (tt, (tt, tt));
}

tables_kept : Each (TableKept now) now
tables_kept = (record { keys = (refl, tt); parents = tt; widths = (refl, tt); columns = (refl, tt) }, (record { keys = (refl, tt); parents = tt; widths = (refl, (refl, tt)); columns = (refl, (refl, tt)) }, tt))

rows_fine : RowsFine (defs_of now) (0 ∷ []) false (rows_at now)
rows_fine = rows_fine_of now (0 ∷ []) tables_kept
