-- From texts that read as queries to their star forms.
use Rattle.std.proofs.Common.{◌≡◌, sym, ap, subst, List, ◌++◌, Some, []}
use Rattle.std.specs.Prelude.{Ok}
use Rattle.std.proofs.lemmas.List.{append-nil}
use Rattle.wh_base.specs.declared.queries.RawQuery.{RawQuery}
use Rattle.wh_base.specs.declared.queries.StarQuery.{StarQuery}
use Rattle.wh_base.specs.declared.tables.TableDef.{TableDef}
use Rattle.wh_base.specs.declared.tokens.Token.{Token}
use Rattle.def_grammar.specs.Query.{select}
use Rattle.def_grammar.specs.Reading.{whole}
use Rattle.def_history.specs.Catalog.{Catalog, View, defs_now}
use Rattle.def_resolve.specs.Resolve.{resolve}
use Rattle.def_rewriting.specs.Matching.{FullText, PartialText, match_text}
use Rattle.law_text.specs.Unordered.{from_formed, unordered, without_order}
use Rattle.law_rewrite.specs.Read.{TextsGive, TextsRead}
use Rattle.law_rewrite.specs.Standing.{SameParts}
use Rattle.law_rewrite.proofs.Resolved.{star_fine_of}

-- the laws of texts, as their crate tells them
abbrev pub AllParts : Type 0
AllParts = (s t : List Token) (a b : RawQuery) → match_text s t ≡ FullText → whole select s ≡ Some a → whole select t ≡ Some b → without_order a ≡ without_order b

abbrev pub AllStars : Type 0
AllStars = (defs : List TableDef) (a b : RawQuery) (q r : StarQuery) → without_order a ≡ without_order b → resolve defs a ≡ Ok q → resolve defs b ≡ Ok r → unordered q ≡ unordered r

abbrev pub FromOn : Type 0
FromOn =
    (s t : List Token) (a b : RawQuery) (defs more : List TableDef) (q r : StarQuery) → match_text s t ≡ PartialText → whole select s ≡ Some a → whole select t ≡ Some b
    → resolve (defs ++ more) a ≡ Ok q → resolve defs b ≡ Ok r → from_formed q ≡ from_formed r

parts_of : (q r : StarQuery) → from_formed q ≡ from_formed r → SameParts q r
parts_of q r e = record {
  tables = ap (λ (x : StarQuery). x.tables) e;
  edges = ap (λ (x : StarQuery). x.edges) e;
  conditions = ap (λ (x : StarQuery). x.conditions) e;
  keys = ap (λ (x : StarQuery). x.keys) e;
  having = ap (λ (x : StarQuery). x.having) e;
}

pub texts_owe : AllParts → AllStars → FromOn → (c : Catalog) (q : StarQuery) (text : List Token) (v : View) → TextsRead c q text v → TextsGive c q text v
texts_owe parts stars from c q text v h = record {
  star_q = star_fine_of (defs_now c) h.asked q h.asked_form;
  star_v = λ tokens own. star_fine_of (defs_now c) (h.given tokens own).0 v.def.query (h.given tokens own).1.1;
  texts = record {
    full = λ tokens own match. stars (defs_now c) h.asked (h.given tokens own).0 q v.def.query (parts text tokens h.asked (h.given tokens own).0 match h.asked_is (h.given tokens own).1.0) h.asked_form (h.given tokens own).1.1;
    part = λ tokens own match. parts_of q v.def.query
        (from text tokens h.asked (h.given tokens own).0 (defs_now c) [] q v.def.query match h.asked_is (h.given tokens own).1.0
        (subst (λ ds. resolve ds h.asked ≡ Ok q) (sym (append-nil (defs_now c))) h.asked_form) (h.given tokens own).1.1);
  };
}
