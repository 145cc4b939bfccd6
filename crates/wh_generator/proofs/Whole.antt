-- The parts of the generated script by their names are the script.
use Rattle.std.proofs.Common.{◌≡◌, ℕ, List, ◌++◌, ap, codes, refl, ◌∙◌}
use Rattle.wh_base.specs.declared.statements.Command.{Command}
use Rattle.def_output.specs.Generator.{generated, section, view_query}
use Rattle.wh_generator.specs.Parts.{counting, day_rows, inserting, loaded, objects, refreshing, repeated, sale_rows, scripted, setup_of, told, turns}

objects-along : (times_text sales_text : List ℕ) (times times2 sales sales2 : List (List (List ℕ))) (view view2 : List ℕ) → times ≡ times2 → sales ≡ sales2 → view ≡ view2
    → objects times_text times sales_text sales view ≡ objects times_text times2 sales_text sales2 view2
objects-along times_text sales_text times times2 sales sales2 view view2 t s v =
    ap (λ x. objects times_text x sales_text sales view) t ∙ ap (λ x. objects times_text times2 sales_text x view) s
    ∙ ap (λ x. objects times_text times2 sales_text sales2 x) v

-- the setup is made of commands that are so made
pub setup-by : (n : ℕ) (times sales : List (List (List ℕ))) (view : List ℕ) (made : List Command)
    → made ≡ objects (codes "CREATE TABLE TIMES (DAY NUMBER PRIMARY KEY, MON NUMBER NOT NULL)") times
    (codes "CREATE TABLE SALES (DAY NUMBER NOT NULL REFERENCES TIMES (DAY), PROD NUMBER NOT NULL, AMT NUMBER)") sales view
    → times ≡ day_rows 360 → sales ≡ sale_rows n → view ≡ codes "CREATE MATERIALIZED VIEW V ENABLE QUERY REWRITE AS " ++ view_query → section 0 made ≡ setup_of n
unfolding setup_of
setup-by n times sales view made is t s v =
    ap (λ x. section 0 x)
    (is
    ∙ objects-along (codes "CREATE TABLE TIMES (DAY NUMBER PRIMARY KEY, MON NUMBER NOT NULL)")
    (codes "CREATE TABLE SALES (DAY NUMBER NOT NULL REFERENCES TIMES (DAY), PROD NUMBER NOT NULL, AMT NUMBER)") times (day_rows 360) sales (sale_rows n) view
    (codes "CREATE MATERIALIZED VIEW V ENABLE QUERY REWRITE AS " ++ view_query) t s v)

pub ruleset setups = (setup-by)

pub parts-are : (n : ℕ) → scripted (setup_of n) inserting refreshing counting turns ≡ generated n
unfolding told day_rows sale_rows loaded objects setup_of inserting repeated refreshing counting turns
parts-are n = refl
