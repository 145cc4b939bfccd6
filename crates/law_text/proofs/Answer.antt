-- The laws together.
use Rattle.std.proofs.Common.{◌≡◌, ℕ, List, ◌++◌, ap, sym, ◌∙◌, true, map, Some, Ok}
use Rattle.wh_base.specs.Lists.{has_number}
use Rattle.wh_base.specs.Tables.{Base, table_at}
use Rattle.wh_base.specs.declared.queries.RawQuery.{RawQuery}
use Rattle.wh_base.specs.declared.queries.StarQuery.{StarQuery}
use Rattle.wh_base.specs.declared.tables.TableDef.{TableDef}
use Rattle.wh_base.specs.declared.views.ViewEntry.{ViewEntry}
use Rattle.wh_base.specs.declared.tokens.Token.{Token}
use Rattle.def_grammar.specs.Query.{select}
use Rattle.def_grammar.specs.Reading.{whole}
use Rattle.def_meaning.specs.Meaning.{in_order, meaning, stored}
use Rattle.def_resolve.specs.Resolve.{resolve}
use Rattle.def_rewriting.specs.Matching.{FullText, PartialText, match_text}
use Rattle.law_text.specs.Unordered.{from_formed, unordered, without_order}
use Rattle.law_text.proofs.Later.{later-tables}
use Rattle.law_text.proofs.Partial.{whole-from}
use Rattle.law_text.proofs.Parts.{whole-parts}
use Rattle.law_text.proofs.Rows.{same-rows, stored-same}
use Rattle.law_text.proofs.Stars.{same-from, same-stars}

pub same-answer : (s t : List Token) (a b : RawQuery) (defs more : List TableDef) (q r : StarQuery) (base now : Base) → match_text s t ≡ FullText → whole select s ≡ Some a → whole select t ≡ Some b
    → resolve (defs ++ more) a ≡ Ok q → resolve defs b ≡ Ok r → ((n : ℕ) → has_number r.tables n ≡ true → table_at base n ≡ table_at now n)
    → meaning q now ≡ in_order q.order (map (λ e. e.row) (stored r base))
same-answer s t a b defs more q r base now full left right query view tables =
    let parts : without_order a ≡ without_order b = whole-parts s t a b full left right in
    let stars : unordered q ≡ unordered r = same-stars (defs ++ more) a b q r parts query (later-tables defs more b r view) in
    same-rows q r now stars ∙ ap (λ (es : List ViewEntry). in_order q.order (map (λ e. e.row) es)) (sym (stored-same r base now tables))

pub from-parts : (s t : List Token) (a b : RawQuery) (defs more : List TableDef) (q r : StarQuery) → match_text s t ≡ PartialText → whole select s ≡ Some a → whole select t ≡ Some b
    → resolve (defs ++ more) a ≡ Ok q → resolve defs b ≡ Ok r → from_formed q ≡ from_formed r
from-parts s t a b defs more q r half left right query view = same-from (defs ++ more) a b q r (whole-from s t a b half left right) query (later-tables defs more b r view)
