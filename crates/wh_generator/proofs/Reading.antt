-- What holds of each block and of each statement that reads from a text holds of each command of the generated script.
use Rattle.std.proofs.Common.{◌≡◌, ℕ, List, [], ◌∷◌, ◌++◌, Bool, true, false, Option, None, Some, codes, cond, flat_map, map, option_map, refl}
use Rattle.std.proofs.lemmas.List.Elements.{All-append, All-cons, All-nil}
use Rattle.std.specs.List.{All}
use Rattle.std.specs.Prelude.{option_to_list}
use Rattle.wh_base.specs.Lists.{count_from}
use Rattle.wh_base.specs.declared.statements.Block.{Block}
use Rattle.wh_base.specs.declared.statements.ChangeStatement.TheVariants.{Load}
use Rattle.wh_base.specs.declared.statements.Command.{Command}
use Rattle.wh_base.specs.declared.statements.Command.TheVariants as commands
use Rattle.wh_base.specs.declared.statements.Section.{Section}
use Rattle.wh_base.specs.declared.statements.Statement.{Statement}
use Rattle.wh_base.specs.declared.statements.Statement.TheVariants as about
use Rattle.wh_base.specs.declared.tokens.Token.{Token}
use Rattle.def_grammar.specs.Forms.{statement_of, text_tokens}
use Rattle.def_grammar.specs.Script.{command_by, is_dml}
use Rattle.def_output.specs.Generator.{by_text, day_row, generated, insert_text, load_command, sale_row, section, setup_commands, ten_times, view_query}

-- P holds of each block, and of each statement that reads from tokens
pub record HoldsOf (P : Command → Type 0) : Type 0 where
  pub blocks : (b : Block) → P (commands.Block b)
  pub statements : (tokens : List Token) (statement : Statement) → statement_of tokens ≡ Some statement → P (commands.Other statement)

-- ---- the command of a text

command-holds : (P : Command → Type 0) → HoldsOf P → (changes : Bool) (s : Statement) → P (commands.Other s) → P (cond changes (commands.Block (record { statements = s ∷ [] })) (commands.Other s))
command-holds P h true s k = h.blocks (record { statements = s ∷ [] })
command-holds P h false s k = k

read-holds : (P : Command → Type 0) → HoldsOf P → (o : Option Statement) → ((s : Statement) → o ≡ Some s → P (commands.Other s)) → All P (option_to_list (option_map command_by o))
read-holds P h None k = All-nil P
read-holds P h (Some s) k = All-cons P (command_by s) [] (command-holds P h (is_dml s) s (k s refl)) (All-nil P)

text-holds : (P : Command → Type 0) → HoldsOf P → (text : List ℕ) → All P (by_text text)
text-holds P h text =
    read-holds P h (statement_of (text_tokens text))
    (λ s e. h.statements (text_tokens text) s e)

-- ---- lists of commands

flat-holds : {A : Type 0} (P : Command → Type 0) (f : A → List Command) (xs : List A) → ((x : A) → All P (f x)) → All P (flat_map f xs)
flat-holds P f [] h = All-nil P
flat-holds P f (x ∷ xs) h = All-append P (f x) (flat_map f xs) (h x) (flat-holds P f xs h)

five-hold : (P : Command → Type 0) (a b c d e : List Command) → All P a → All P b → All P c → All P d → All P e → All P (a ++ (b ++ (c ++ (d ++ e))))
five-hold P a b c d e ha hb hc hd he =
    All-append P a (b ++ (c ++ (d ++ e))) ha
    (All-append P b (c ++ (d ++ e)) hb (All-append P c (d ++ e) hc (All-append P d e hd he)))

one-block : (P : Command → Type 0) → HoldsOf P → (b : Block) → All P (commands.Block b ∷ [])
one-block P h b = All-cons P (commands.Block b) [] (h.blocks b) (All-nil P)

table-holds : (P : Command → Type 0) → HoldsOf P → (table : List ℕ) (rows : List (List (List ℕ))) → All P (load_command table rows)
table-holds P h table rows = one-block P h (record { statements = about.Change (Load (record { table = table; rows = rows })) ∷ [] })

setup-holds : (P : Command → Type 0) → HoldsOf P → (n : ℕ) → All P (setup_commands n)
setup-holds P h n =
    five-hold P
    (by_text (codes "CREATE TABLE TIMES (DAY NUMBER PRIMARY KEY, MON NUMBER NOT NULL)"))
    (load_command (codes "TIMES") (map day_row (count_from 0 360)))
    (by_text (codes "CREATE TABLE SALES (DAY NUMBER NOT NULL REFERENCES TIMES (DAY), PROD NUMBER NOT NULL, AMT NUMBER)"))
    (load_command (codes "SALES") (map sale_row (count_from 0 n)))
    (by_text (codes "CREATE MATERIALIZED VIEW V ENABLE QUERY REWRITE AS " ++ view_query))
    (text-holds P h (codes "CREATE TABLE TIMES (DAY NUMBER PRIMARY KEY, MON NUMBER NOT NULL)"))
    (table-holds P h (codes "TIMES") (map day_row (count_from 0 360)))
    (text-holds P h (codes "CREATE TABLE SALES (DAY NUMBER NOT NULL REFERENCES TIMES (DAY), PROD NUMBER NOT NULL, AMT NUMBER)"))
    (table-holds P h (codes "SALES") (map sale_row (count_from 0 n)))
    (text-holds P h (codes "CREATE MATERIALIZED VIEW V ENABLE QUERY REWRITE AS " ++ view_query))

inserts-hold : (P : Command → Type 0) → HoldsOf P → All P (flat_map (λ j. by_text (insert_text j)) (count_from 0 10))
inserts-hold P h = flat-holds P (λ j. by_text (insert_text j)) (count_from 0 10) (λ j. text-holds P h (insert_text j))

turns-hold : (P : Command → Type 0) (turn : List Command) → All P turn → All P (ten_times turn)
turns-hold P turn h = flat-holds P (λ _. turn) (count_from 0 10) (λ _. h)

refreshes-hold : (P : Command → Type 0) → HoldsOf P → All P (ten_times (by_text (codes "EXECUTE DBMS_MVIEW.REFRESH('V', 'C')") ++ by_text view_query))
refreshes-hold P h =
    turns-hold P (by_text (codes "EXECUTE DBMS_MVIEW.REFRESH('V', 'C')") ++ by_text view_query)
    (All-append P (by_text (codes "EXECUTE DBMS_MVIEW.REFRESH('V', 'C')")) (by_text view_query) (text-holds P h (codes "EXECUTE DBMS_MVIEW.REFRESH('V', 'C')")) (text-holds P h view_query))

counts-hold : (P : Command → Type 0) → HoldsOf P → All P (ten_times (by_text (codes "SELECT S.PROD, COUNT(*) FROM SALES S GROUP BY S.PROD")))
counts-hold P h = turns-hold P (by_text (codes "SELECT S.PROD, COUNT(*) FROM SALES S GROUP BY S.PROD")) (text-holds P h (codes "SELECT S.PROD, COUNT(*) FROM SALES S GROUP BY S.PROD"))

-- ---- the script

sections-hold : (P : Command → Type 0) (a b c d : List Command) → All P a → All P b → All P c → All P d
    → All (λ s. All P s.commands) (section 0 a ∷ section 1 b ∷ section 2 c ∷ section 3 d ∷ [])
sections-hold P a b c d ha hb hc hd =
    let Q : Section → Type 0 = λ s. All P s.commands in
    All-cons Q (section 0 a) (section 1 b ∷ section 2 c ∷ section 3 d ∷ []) ha
    (All-cons Q (section 1 b) (section 2 c ∷ section 3 d ∷ []) hb (All-cons Q (section 2 c) (section 3 d ∷ []) hc (All-cons Q (section 3 d) [] hd (All-nil Q))))

pub script-holds : (P : Command → Type 0) → HoldsOf P → (n : ℕ) → All (λ s. All P s.commands) (generated n).sections
script-holds P h n =
    sections-hold P (setup_commands n) (flat_map (λ j. by_text (insert_text j)) (count_from 0 10))
    (ten_times (by_text (codes "EXECUTE DBMS_MVIEW.REFRESH('V', 'C')") ++ by_text view_query))
    (ten_times (by_text (codes "SELECT S.PROD, COUNT(*) FROM SALES S GROUP BY S.PROD")))
    (setup-holds P h n) (inserts-hold P h) (refreshes-hold P h) (counts-hold P h)
