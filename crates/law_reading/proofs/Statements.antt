-- Each statement asks what its text reads as.
use Rattle.std.proofs.Common.{◌≡◌, ℕ, List, [], ◌∷◌, refl, ap, subst, ◌∙◌, Bool, true, false, Option, None, Some, codes}
use Rattle.std.specs.List.{list_any}
use Rattle.std.specs.Prelude.{is_none, not, pos}
use Rattle.wh_base.specs.Lists.{is_empty, option_case, where_true}
use Rattle.wh_base.specs.declared.statements.Asked.{Asked}
use Rattle.wh_base.specs.declared.statements.ChangeStatement.TheVariants.{Delete, Insert, Update}
use Rattle.wh_base.specs.declared.statements.Command.TheVariants as commands
use Rattle.wh_base.specs.declared.statements.DimensionStatement.TheVariants.{CreateDimension, DropDimension}
use Rattle.wh_base.specs.declared.statements.LogStatement.TheVariants.{CreateLog, DropLog}
use Rattle.wh_base.specs.declared.statements.PurgeStatement.TheVariants.{PurgeLog, PurgeUndo}
use Rattle.wh_base.specs.declared.statements.SessionStatement.TheVariants.{EndReadOnly, ReadOnly, SetLevel, SetRewrite}
use Rattle.wh_base.specs.declared.statements.ShowStatement.TheVariants.{ExplainView, ShowLog, ShowView, ValidateDimension}
use Rattle.wh_base.specs.declared.statements.Statement.{Statement}
use Rattle.wh_base.specs.declared.statements.Statement.TheVariants as about
use Rattle.wh_base.specs.declared.statements.TableStatement.TheVariants.{AlterTable, CreateTable}
use Rattle.wh_base.specs.declared.statements.ViewStatement.TheVariants.{AlterView, CreateView, DropView, Unregister}
use Rattle.wh_base.specs.declared.tokens.Token.{Token}
use Rattle.def_grammar.specs.Forms.{all_words, alter_table, alter_view, asked, attribute, create_dimension, create_log, create_table, create_view, definition, delete, dimension, dml, foreign_part, hierarchy, insert, is_deferred, key_part, level, level_setting, log, log_options, method_text, movement_behind, name_list_token, named_form, new_column_part, on_or_off, other, own_conditions, part_change, partitioning, refresh, refresh_clause, rewrite_clause, row_value, session_setting, set_column, statement, statement_of, update, view}
use Rattle.def_grammar.specs.Reading.{Rule, bracketed, gives, listed, many, mapped, mark, maybe, name, number, optional_list, word, ◌>>◌, ◌or◌}
use Rattle.law_views.specs.Read.{IsRead, ReadsAs}
use Rattle.law_reading.proofs.Kept.{kept-reads}
use Rattle.law_reading.proofs.Rules.{Ends, Gives, OfAll, bind-ends, bind-gives, gives-ends, gives-it, made-ends, mapped-ends, mapped-gives, or-ends, or-gives, then-ends, then-gives}

-- the statement asks what its text reads as
abbrev pub Reads : Statement → Type 0
Reads s = IsRead (commands.Other s)

-- ---- statements that ask nothing

named-gives : (ws : List (List ℕ)) (make : List ℕ → Statement) → ((n : List ℕ) → Reads (make n)) → Gives Reads (named_form ws make)
named-gives ws make h = then-gives Reads (all_words ws) (mapped make name) (mapped-gives Reads make name h)

insert-gives : Gives Reads insert
insert-gives =
    then-gives Reads (all_words (codes "INSERT" ∷ codes "INTO" ∷ [])) _ (bind-gives Reads name _ (λ t.
    bind-gives Reads (maybe (bracketed (listed name))) _ (λ columns.
    then-gives Reads (word (codes "VALUES")) _ (bind-gives Reads (listed (bracketed (listed row_value))) _ (λ rows.
    gives-it Reads (about.Change (Insert (record { table = t; columns = columns; rows = rows }))) tt)))))

update-gives : Gives Reads update
update-gives =
    then-gives Reads (word (codes "UPDATE")) _ (bind-gives Reads name _ (λ t.
    then-gives Reads (word (codes "SET")) _ (bind-gives Reads (listed set_column) _ (λ sets.
    bind-gives Reads own_conditions _ (λ conditions.
    gives-it Reads (about.Change (Update (record { table = t; sets = sets; conditions = conditions }))) tt)))))

delete-gives : Gives Reads delete
delete-gives =
    then-gives Reads (word (codes "DELETE")) _ (then-gives Reads (maybe (word (codes "FROM"))) _ (bind-gives Reads name _ (λ t.
    bind-gives Reads own_conditions _ (λ conditions.
    gives-it Reads (about.Change (Delete (record { table = t; conditions = conditions }))) tt))))

dml-gives : Gives Reads dml
dml-gives = or-gives Reads insert (update or delete) insert-gives (or-gives Reads update delete update-gives delete-gives)

create-table-gives : Gives Reads create_table
create-table-gives =
    then-gives Reads (all_words (codes "CREATE" ∷ codes "TABLE" ∷ [])) _ (bind-gives Reads name _ (λ t.
    bind-gives Reads (bracketed (listed (key_part or foreign_part or new_column_part))) _ (λ ps.
    bind-gives Reads (maybe partitioning) _ (λ p.
    bind-gives Reads (movement_behind p) _ (λ m.
    gives-it Reads (about.Table (CreateTable (record { name = t; parts = ps; partitioning = p; movement = m }))) tt)))))

alter-table-gives : Gives Reads alter_table
alter-table-gives =
    then-gives Reads (all_words (codes "ALTER" ∷ codes "TABLE" ∷ [])) _ (bind-gives Reads name _ (λ t.
    bind-gives Reads part_change _ (λ c. gives-it Reads (about.Table (AlterTable (record { table = t; change = c }))) tt)))

create-log-gives : Gives Reads create_log
create-log-gives =
    let including : Rule Bool = all_words (codes "INCLUDING" ∷ codes "NEW" ∷ codes "VALUES" ∷ []) >> gives true in
    let excluding : Rule Bool = all_words (codes "EXCLUDING" ∷ codes "NEW" ∷ codes "VALUES" ∷ []) >> gives false in
    then-gives Reads (all_words (codes "CREATE" ∷ codes "MATERIALIZED" ∷ codes "VIEW" ∷ codes "LOG" ∷ codes "ON" ∷ [])) _ (bind-gives Reads name _ (λ t.
    bind-gives Reads (optional_list (word (codes "WITH") >> log_options)) _ (λ options.
    bind-gives Reads (optional_list (bracketed (listed name))) _ (λ columns.
    bind-gives Reads (including or excluding or gives false) _ (λ new.
    gives-it Reads (about.Log (CreateLog (record { table = t; rowid = list_any (λ b. b) options; sequence = list_any not options; columns = columns; new_values = new }))) tt)))))

log-gives : Gives Reads log
log-gives =
    or-gives Reads create_log (named_form (codes "DROP" ∷ codes "MATERIALIZED" ∷ codes "VIEW" ∷ codes "LOG" ∷ codes "ON" ∷ []) (λ n. about.Log (DropLog n))) create-log-gives
    (named-gives (codes "DROP" ∷ codes "MATERIALIZED" ∷ codes "VIEW" ∷ codes "LOG" ∷ codes "ON" ∷ []) (λ n. about.Log (DropLog n)) (λ n. tt))

alter-view-gives : Gives Reads alter_view
alter-view-gives =
    then-gives Reads (all_words (codes "ALTER" ∷ codes "MATERIALIZED" ∷ codes "VIEW" ∷ [])) _ (bind-gives Reads name _ (λ n.
    bind-gives Reads rewrite_clause _ (λ on. gives-it Reads (about.View (AlterView (record { name = n; rewrite = on }))) tt)))

create-dimension-gives : Gives Reads create_dimension
create-dimension-gives =
    then-gives Reads (all_words (codes "CREATE" ∷ codes "DIMENSION" ∷ [])) _ (bind-gives Reads name _ (λ n.
    bind-gives Reads (many level) _ (λ ls.
    bind-gives Reads (many hierarchy) _ (λ hs.
    bind-gives Reads (many attribute) _ (λ ats.
    gives-it Reads (about.Dimension (CreateDimension (record { name = n; levels = ls; hierarchies = hs; attributes = ats }))) tt)))))

dimension-gives : Gives Reads dimension
dimension-gives =
    let dropped : Rule Statement = named_form (codes "DROP" ∷ codes "DIMENSION" ∷ []) (λ n. about.Dimension (DropDimension n)) in
    let validated : Rule Statement = named_form (codes "VALIDATE" ∷ codes "DIMENSION" ∷ []) (λ n. about.Show (ValidateDimension n)) in
    or-gives Reads create_dimension (dropped or validated) create-dimension-gives
    (or-gives Reads dropped validated (named-gives (codes "DROP" ∷ codes "DIMENSION" ∷ []) (λ n. about.Dimension (DropDimension n)) (λ n. tt))
    (named-gives (codes "VALIDATE" ∷ codes "DIMENSION" ∷ []) (λ n. about.Show (ValidateDimension n)) (λ n. tt)))

refresh-gives : Gives Reads refresh
refresh-gives =
    then-gives Reads (word (codes "EXECUTE") or word (codes "EXEC")) _ (then-gives Reads (word (codes "DBMS_MVIEW")) _ (
    then-gives Reads (mark (codes ".")) _ (then-gives Reads (word (codes "REFRESH")) _ (then-gives Reads (mark (codes "(")) _ (
    bind-gives Reads name_list_token _ (λ l.
    bind-gives Reads (maybe (mark (codes ",") >> method_text)) _ (λ m.
    then-gives Reads (mark (codes ")")) _ (gives-it Reads (about.Refresh (record { name = l.0; method = m; more = l.1 })) tt))))))))

setting-gives : Gives Reads session_setting
setting-gives =
    let set_level : Rule Statement = mapped (λ l. about.Session (SetLevel l)) (word (codes "QUERY_REWRITE_INTEGRITY") >> mark (codes "=") >> level_setting) in
    let set_rewrite : Rule Statement = mapped (λ on. about.Session (SetRewrite on)) (word (codes "QUERY_REWRITE_ENABLED") >> mark (codes "=") >> on_or_off) in
    then-gives Reads (all_words (codes "ALTER" ∷ codes "SESSION" ∷ codes "SET" ∷ [])) (set_level or set_rewrite) (or-gives Reads set_level set_rewrite
    (mapped-gives Reads (λ l. about.Session (SetLevel l)) (word (codes "QUERY_REWRITE_INTEGRITY") >> mark (codes "=") >> level_setting) (λ l. tt))
    (mapped-gives Reads (λ on. about.Session (SetRewrite on)) (word (codes "QUERY_REWRITE_ENABLED") >> mark (codes "=") >> on_or_off) (λ on. tt)))

-- ---- statements that ask

asked-end : (ts : List Token) (o : Option (Asked × List Token)) → asked ts ≡ o → OfAll ReadsAs o
asked-end ts None e = tt
asked-end ts (Some p) e = λ none. kept-reads ts p.0 (e ∙ ap (λ rest. Some (p.0, rest)) none)

asked-ends : Ends ReadsAs asked
asked-ends = record { all = λ ts. asked-end ts (asked ts) refl }

-- a SELECT that passes a test
tested : (b : Bool) (p : Asked × List Token) → (p.1 ≡ [] → ReadsAs p.0) → OfAll ReadsAs (where_true b p)
tested true p h = h
tested false p h = tt

definition-end : (o : Option (Asked × List Token)) → OfAll ReadsAs o → OfAll ReadsAs (option_case o None (λ p. where_true (is_none p.0.query.as_of) p))
definition-end None h = tt
definition-end (Some p) h = tested (is_none p.0.query.as_of) p h

definition-ends : Ends ReadsAs definition
definition-ends = record { all = λ ts. definition-end (asked ts) (asked-ends.all ts) }

create-view-ends : Ends Reads create_view
create-view-ends =
    then-ends Reads (all_words (codes "CREATE" ∷ codes "MATERIALIZED" ∷ codes "VIEW" ∷ [])) _
    (bind-ends Reads name _ (λ n.
    bind-ends Reads is_deferred _ (λ deferred.
    bind-ends Reads refresh_clause _ (λ how.
    bind-ends Reads (rewrite_clause or gives false) _ (λ rewrite.
    then-ends Reads (word (codes "AS")) _
    (made-ends ReadsAs Reads (λ q. about.View (CreateView (record { name = n; deferred = deferred; method = how.0; on_commit = how.1; rewrite = rewrite; asked = q }))) definition definition-ends (λ q h. h)))))))

view-ends : Ends Reads view
view-ends =
    let dropped : Rule Statement = named_form (codes "DROP" ∷ codes "MATERIALIZED" ∷ codes "VIEW" ∷ []) (λ n. about.View (DropView n)) in
    let unregistered : Rule Statement = named_form (codes "UNREGISTER" ∷ codes "MATERIALIZED" ∷ codes "VIEW" ∷ []) (λ n. about.View (Unregister n)) in
    or-ends Reads create_view (alter_view or dropped or unregistered) create-view-ends
    (gives-ends Reads (alter_view or dropped or unregistered) (or-gives Reads alter_view (dropped or unregistered) alter-view-gives
    (or-gives Reads dropped unregistered (named-gives (codes "DROP" ∷ codes "MATERIALIZED" ∷ codes "VIEW" ∷ []) (λ n. about.View (DropView n)) (λ n. tt))
    (named-gives (codes "UNREGISTER" ∷ codes "MATERIALIZED" ∷ codes "VIEW" ∷ []) (λ n. about.View (Unregister n)) (λ n. tt)))))

-- EXPLAIN REWRITE, or what follows it in the grammar
explained-ends : (s : Rule Statement) → Gives Reads s → Ends Reads (mapped about.ExplainQuery (all_words (codes "EXPLAIN" ∷ codes "REWRITE" ∷ []) >> asked) or s)
explained-ends s h =
    let explained : Rule Asked = all_words (codes "EXPLAIN" ∷ codes "REWRITE" ∷ []) >> asked in
    or-ends Reads (mapped about.ExplainQuery explained) s
    (mapped-ends ReadsAs Reads about.ExplainQuery explained (then-ends ReadsAs (all_words (codes "EXPLAIN" ∷ codes "REWRITE" ∷ [])) asked asked-ends) (λ a k. k)) (gives-ends Reads s h)

-- a statement of a keyword or two, or what follows it in the grammar
named-ends : (ws : List (List ℕ)) (make : List ℕ → Statement) (s : Rule Statement) → ((n : List ℕ) → Reads (make n)) → Ends Reads s → Ends Reads (named_form ws make or s)
named-ends ws make s h k = or-ends Reads (named_form ws make) s (gives-ends Reads (named_form ws make) (named-gives ws make h)) k

other-ends : Ends Reads other
other-ends =
    let undo : Rule ℕ = all_words (codes "PURGE" ∷ codes "UNDO" ∷ codes "TO" ∷ codes "SCN" ∷ []) >> number in
    let read_only : Rule Bool = all_words (codes "SET" ∷ codes "TRANSACTION" ∷ codes "READ" ∷ codes "ONLY" ∷ []) in
    named-ends (codes "PURGE" ∷ codes "LOG" ∷ codes "ON" ∷ []) (λ n. about.Purge (PurgeLog n)) _ (λ n. tt)
    (or-ends Reads (mapped (λ n. about.Purge (PurgeUndo (pos n))) undo) _ (gives-ends Reads (mapped (λ n. about.Purge (PurgeUndo (pos n))) undo) (mapped-gives Reads (λ n. about.Purge (PurgeUndo (pos n))) undo (λ n. tt)))
    (named-ends (codes "SHOW" ∷ codes "VIEW" ∷ []) (λ n. about.Show (ShowView n)) _ (λ n. tt)
    (named-ends (codes "SHOW" ∷ codes "LOG" ∷ []) (λ n. about.Show (ShowLog n)) _ (λ n. tt)
    (named-ends (codes "EXPLAIN" ∷ codes "MVIEW" ∷ []) (λ n. about.Show (ExplainView n)) _ (λ n. tt)
    (explained-ends _ (or-gives Reads (mapped (λ _. about.Session ReadOnly) read_only) _ (mapped-gives Reads (λ _. about.Session ReadOnly) read_only (λ _. tt))
    (or-gives Reads (mapped (λ _. about.Session EndReadOnly) (word (codes "COMMIT"))) session_setting (mapped-gives Reads (λ _. about.Session EndReadOnly) (word (codes "COMMIT")) (λ _. tt)) setting-gives)))))))

statement-ends : Ends Reads statement
statement-ends =
    let later : Rule Statement = view or dimension or refresh or other in
    let others : Rule Statement = create_table or alter_table or log or later in
    or-ends Reads (mapped about.Select asked) (dml or others) (mapped-ends ReadsAs Reads about.Select asked asked-ends (λ a h. h))
    (or-ends Reads dml others (gives-ends Reads dml dml-gives)
    (or-ends Reads create_table (alter_table or log or later) (gives-ends Reads create_table create-table-gives)
    (or-ends Reads alter_table (log or later) (gives-ends Reads alter_table alter-table-gives)
    (or-ends Reads log later (gives-ends Reads log log-gives)
    (or-ends Reads view (dimension or refresh or other) view-ends
    (or-ends Reads dimension (refresh or other) (gives-ends Reads dimension dimension-gives)
    (or-ends Reads refresh other (gives-ends Reads refresh refresh-gives) other-ends)))))))

-- ---- the laws

some-same : (s t : Statement) → Some s ≡ Some t → s ≡ t
some-same s t e = cc

all-taken : (x : Statement) (rest : List Token) (s : Statement) → (rest ≡ [] → Reads x) → where_true (is_empty rest) x ≡ Some s → Reads s
all-taken x [] s h e = subst Reads (some-same x s e) (h refl)
all-taken x (t ∷ rest) s h e = absurd (cc)

whole-reads : (o : Option (Statement × List Token)) (s : Statement) → OfAll Reads o → option_case o None (λ p. where_true (is_empty p.1) p.0) ≡ Some s → Reads s
whole-reads None s h e = absurd (cc)
whole-reads (Some p) s h e = all-taken p.0 p.1 s h e

pub statement-reads : (tokens : List Token) (statement : Statement) → statement_of tokens ≡ Some statement → Reads statement
statement-reads ts s e = whole-reads (statement ts) s (statement-ends.all ts) e
