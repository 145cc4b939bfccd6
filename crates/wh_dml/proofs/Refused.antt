-- An INSERT whose rows are refused.
use Rattle.std.proofs.Common.{◌≡◌, ◌∙◌, ap, ℕ, List, Some}
use Rattle.std.specs.Prelude.{Err, Ok, Result}
use Rattle.wh_base.specs.Lists.{or_refuse, ◌>>=◌}
use Rattle.wh_base.specs.Tables.{def_at}
use Rattle.wh_base.specs.declared.replies.Refusal.{Refusal}
use Rattle.wh_base.specs.declared.replies.Refusal.TheVariants.{NoSuchObject}
use Rattle.wh_base.specs.declared.statements.InsertRows.{InsertRows}
use Rattle.wh_base.specs.declared.tables.TableDef.{TableDef}
use Rattle.wh_base.specs.declared.values.Value.{Value}
use Rattle.wh_dml.specs.Asking.{asked_from, asked_of, number_in, rows_asked}

-- what is asked of a table is refused
pub asked_refused : (defs : List TableDef) (s : InsertRows) (n : ℕ) (d : TableDef) (code : Refusal) → Some n ≡ number_in defs s.table → d ≡ def_at defs n → Err code ≡ rows_asked d s → Err code ≡ asked_from defs s
asked_refused defs s n d code number is refused =
    ap (λ (r : Result (List (List Value)) Refusal). r >>= (λ rows. Ok (record { table = n; rows = rows }))) (refused ∙ ap (λ e. rows_asked e s) is)
    ∙ ap (λ o. or_refuse o (NoSuchObject s.table) >>= asked_of defs s) number
