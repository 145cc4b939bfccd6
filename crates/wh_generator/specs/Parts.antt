-- The parts of the generated script under names of their own, so that a proof that puts them together looks into none of them.
use Rattle.std.specs.Prelude.{List, [], codes, flat_map, map, ℕ, ◌++◌, ◌∷◌}
use Rattle.wh_base.specs.Lists.{count_from}
use Rattle.wh_base.specs.declared.statements.Command.{Command}
use Rattle.wh_base.specs.declared.statements.Script.{Script}
use Rattle.wh_base.specs.declared.statements.Section.{Section}
use Rattle.def_output.specs.Generator.{by_text, day_row, insert_text, load_command, sale_row, section, ten_times, view_query}

-- the command that a text stands for
unfoldable pub told : List ℕ → List Command
told text = by_text text

-- the rows of so many days
unfoldable pub day_rows : ℕ → List (List (List ℕ))
day_rows n = map day_row (count_from 0 n)

-- the rows of so many sales
unfoldable pub sale_rows : ℕ → List (List (List ℕ))
sale_rows n = map sale_row (count_from 0 n)

-- a LOAD of these rows
unfoldable pub loaded : List ℕ → List (List (List ℕ)) → List Command
loaded table rows = load_command table rows

-- the commands that make both tables by their texts, load their rows, and make the view by its text
unfoldable pub objects : List ℕ → List (List (List ℕ)) → List ℕ → List (List (List ℕ)) → List ℕ → List Command
objects times_text times sales_text sales view_text =
    told times_text ++ (loaded (codes "TIMES") times ++ (told sales_text ++ (loaded (codes "SALES") sales ++ told view_text)))

-- the section of the setup
unfoldable pub setup_of : ℕ → Section
setup_of n =
    section 0
    (objects (codes "CREATE TABLE TIMES (DAY NUMBER PRIMARY KEY, MON NUMBER NOT NULL)") (day_rows 360)
    (codes "CREATE TABLE SALES (DAY NUMBER NOT NULL REFERENCES TIMES (DAY), PROD NUMBER NOT NULL, AMT NUMBER)") (sale_rows n)
    (codes "CREATE MATERIALIZED VIEW V ENABLE QUERY REWRITE AS " ++ view_query))

-- a section of an INSERT for each day
unfoldable pub inserting : Section
inserting = section 1 (flat_map (λ j. told (insert_text j)) (count_from 0 10))

-- a section of these commands ten times over
unfoldable pub repeated : ℕ → List Command → Section
repeated n turn = section n (ten_times turn)

-- a section of a refresh and a query, ten times over
unfoldable pub refreshing : Section
refreshing = repeated 2 (told (codes "EXECUTE DBMS_MVIEW.REFRESH('V', 'C')") ++ told view_query)

-- a section of a query, ten times over
unfoldable pub counting : Section
counting = repeated 3 (told (codes "SELECT S.PROD, COUNT(*) FROM SALES S GROUP BY S.PROD"))

-- the sessions of a turn, ten times over
unfoldable pub turns : List ℕ
turns = ten_times (1 ∷ 2 ∷ 2 ∷ 2 ∷ 3 ∷ [])

-- a script of four sections and no workers
abbrev pub scripted : Section → Section → Section → Section → List ℕ → Script
scripted a b c d order = record { sections = a ∷ b ∷ c ∷ d ∷ []; order = order; workers = 0 }
