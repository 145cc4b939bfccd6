-- The laws together.
use Rattle.std.proofs.Common.{◌≡◌, ◌∙◌, sym, ap, true, List, [], ◌∷◌, ◌++◌, map, flat_map}
use Rattle.std.proofs.lemmas.List.Folds.{flat_map-map}
use Rattle.wh_base.specs.declared.statements.Entry.{Entry}
use Rattle.wh_base.specs.declared.statements.Script.{Script}
use Rattle.wh_base.specs.declared.values.Version.{Version}
use Rattle.def_journal.specs.Jobs.{accepted_submits}
use Rattle.def_journal.specs.Journal.{Told, is_legal}
use Rattle.def_transcript.specs.Texts.{first_lines, journal_line, lines_text}
use Rattle.def_transcript.specs.Transcript.{transcript}
use Rattle.wh_order.specs.Laws.{Laws, session_told, told_text}
use Rattle.wh_order.proofs.Journals.{all_own, each_own, next_part, own_parts}
use Rattle.wh_order.proofs.Ordered.{legal}
use Rattle.wh_order.proofs.Summed.{count_by_sections, sum_by_sections}
use Rattle.wh_order.proofs.Told.{by_sections, told_in_of, told_of}

by_lists : (version : Version) (script : Script) (journal : List Entry) (told : List (List Told)) → accepted_submits script ≡ [] → is_legal script journal ≡ true → told ≡ map (session_told script journal) script.sections → transcript version script journal ≡ lines_text (first_lines version) ++ (flat_map (told_text version) told ++ lines_text (journal_line journal ∷ []))
by_lists version script journal told none legal is =
    by_sections version script journal (each_own script journal none legal)
    ∙ ap (λ text. lines_text (first_lines version) ++ (text ++ lines_text (journal_line journal ∷ []))) (sym (ap (flat_map (told_text version)) is ∙ flat_map-map (told_text version) (session_told script journal) script.sections))

pub laws_hold : Laws
laws_hold = record {
  legal = legal;
  own_parts = own_parts;
  all_own = all_own;
  next_part = next_part;
  told_of = told_of;
  told_in_of = told_in_of;
  transcript_by_sessions = λ version script journal none legal. by_sections version script journal (each_own script journal none legal);
  transcript_by_lists = by_lists;
  sum_by_sections = sum_by_sections;
  count_by_sections = count_by_sections;
}
