-- No session of a script of forms that are built creates a view over a view.
use Rattle.std.proofs.Common.{◌≡◌, ◌∙◌, sym, refl, ℕ, suc, zero, ◌-◌, ◌==◌, ◌&&◌, ◌||◌, Bool, true, false, true≢false, cond, not, List, [], ◌∷◌, ◌++◌, flat_map, find, slice_get, Some}
use Rattle.std.proofs.lemmas.Bool.{and_parts, or_from, or_left, or_parts, or_right}
use Rattle.std.proofs.lemmas.List.Concat.{flat_map-append}
use Rattle.std.proofs.lemmas.List.Elements.{All-from_recursion}
use Rattle.std.proofs.lemmas.List.Folds.{list_any-append}
use Rattle.std.specs.List.{All, AllByRecursion, list_any}
use Rattle.std.specs.Prelude.{unwrap_or}
use Rattle.wh_base.specs.Lists.{has_text, option_case, same_text}
use Rattle.wh_base.specs.declared.statements.Command.{Command}
use Rattle.wh_base.specs.declared.statements.Entry.{Entry}
use Rattle.wh_base.specs.declared.statements.Script.{Script}
use Rattle.wh_base.specs.declared.statements.Section.{Section}
use Rattle.def_built.specs.Form.{created_by, created_over, nests, script_is_built, sections_are_built, views_are_built}
use Rattle.def_built.specs.Forms.{is_built}
use Rattle.def_built.specs.declared.forms.Form.TheVariants as forms
use Rattle.def_journal.specs.Journal.{command_of, commands_of, no_command, trace_of}
use Rattle.wh_core.specs.Calls.{IsOverTables, names_created}
use Rattle.wh_session.specs.Run.{AreOverTables}

-- ---- the names of the views that are created

-- one of two lists has the name
in_first : (xs ys : List (List ℕ)) (n : List ℕ) → has_text xs n ≡ true → has_text (xs ++ ys) n ≡ true
in_first xs ys n h = list_any-append (same_text n) xs ys ∙ or_left (has_text xs n) (has_text ys n) h

in_second : (xs ys : List (List ℕ)) (n : List ℕ) → has_text ys n ≡ true → has_text (xs ++ ys) n ≡ true
in_second xs ys n h = list_any-append (same_text n) xs ys ∙ or_right (has_text xs n) (has_text ys n) h

in_commands : (cs : List Command) (i : ℕ) (n : List ℕ) → has_text (created_by (unwrap_or (slice_get cs i) no_command)) n ≡ true → has_text (names_created cs) n ≡ true
in_commands [] i n h = absurd (true≢false (sym h))
in_commands (c ∷ cs) zero n h = in_first (created_by c) (names_created cs) n h
in_commands (c ∷ cs) (suc i) n h = in_second (created_by c) (names_created cs) n (in_commands cs i n h)

-- all commands of these sections
abbrev commands_in : List Section → List Command
commands_in ss = flat_map (λ s. s.commands) ss

-- the command with the number i of the session m
abbrev command_at : List Section → ℕ → ℕ → Command
command_at ss m i = option_case (find (λ s. s.session == m) ss) no_command (λ s. unwrap_or (slice_get s.commands i) no_command)

names_apart : (s : Section) (ss : List Section) → names_created (commands_in (s ∷ ss)) ≡ names_created s.commands ++ names_created (commands_in ss)
names_apart s ss = flat_map-append created_by s.commands (commands_in ss)

in_sections : (ss : List Section) (m i : ℕ) (n : List ℕ) → has_text (created_by (command_at ss m i)) n ≡ true → has_text (names_created (commands_in ss)) n ≡ true
in_sections [] m i n h = absurd (true≢false (sym h))
in_sections (s ∷ ss) m i n h = rw (names_apart s ss) (by (s.session == m) h (in_sections ss m i n))
  where
    by : (b : Bool) → has_text (created_by (option_case (cond b (Some s) (find (λ t. t.session == m) ss)) no_command (λ t. unwrap_or (slice_get t.commands i) no_command))) n ≡ true
        → (has_text (created_by (command_at ss m i)) n ≡ true → has_text (names_created (commands_in ss)) n ≡ true)
        → has_text (names_created s.commands ++ names_created (commands_in ss)) n ≡ true
    by true h later = in_first (names_created s.commands) (names_created (commands_in ss)) n (in_commands s.commands i n h)
    by false h later = in_second (names_created s.commands) (names_created (commands_in ss)) n (later h)

-- a name that the script doesn't create isn't created by a command of its trace
absent : (script : Script) (n : List ℕ) → has_text (names_created (commands_in script.sections)) n ≡ false → (front : List Entry) → has_text (names_created (commands_of (trace_of script front))) n ≡ false
absent script n none [] = refl
absent script n none (e ∷ es) =
    list_any-append (same_text n) (created_by (command_of script e)) (names_created (commands_of (trace_of script es)))
    ∙ or_from (has_text (created_by (command_of script e)) n) _ (by (has_text (created_by (command_of script e)) n) refl) (absent script n none es)
  where
    by : (b : Bool) → has_text (created_by (command_of script e)) n ≡ b → b ≡ false
    by true is = absurd (true≢false (sym (in_sections script.sections e.session (e.command - 1) n is) ∙ none))
    by false is = refl

-- ---- views over tables

module _ (script : Script) (front : List Entry) where
  -- the names of all views that the script creates
  abbrev all : List (List ℕ)
  all = names_created (commands_in script.sections)

  abbrev Over : Command → Type 0
  Over c = IsOverTables (commands_of (trace_of script front)) c

  none_among : (names : List (List ℕ)) → list_any (has_text all) names ≡ false → list_any (has_text (names_created (commands_of (trace_of script front)))) names ≡ false
  none_among [] h = refl
  none_among (n ∷ names) h =
      let parts = or_parts (has_text all n) (list_any (has_text all) names) h in
      or_from _ _ (absent script n parts.0 front) (none_among names parts.1)

  each_command : (cs : List Command) → list_any (has_text all) (flat_map created_over cs) ≡ false → AllByRecursion Over cs
  each_command [] h = tt
  each_command (c ∷ cs) h =
      let parts = or_parts (list_any (has_text all) (created_over c)) (list_any (has_text all) (flat_map created_over cs)) (sym (list_any-append (has_text all) (created_over c) (flat_map created_over cs)) ∙ h) in
      (none_among (created_over c) parts.0, each_command cs parts.1)

  each_section : (ss : List Section) → list_any (has_text all) (flat_map created_over (commands_in ss)) ≡ false → AllByRecursion (AreOverTables (trace_of script front)) ss
  each_section [] h = tt
  each_section (s ∷ ss) h =
      let own : List (List ℕ) = flat_map created_over s.commands in
      let later : List (List ℕ) = flat_map created_over (commands_in ss) in
      let apart : list_any (has_text all) (own ++ later) ≡ false = rw (flat_map-append created_over s.commands (commands_in ss)) at h in
      let parts = or_parts (list_any (has_text all) own) (list_any (has_text all) later) (sym (list_any-append (has_text all) own later) ∙ apart) in
      (All-from_recursion Over s.commands (each_command s.commands parts.0), each_section ss parts.1)

  -- no session creates a view over one that was created in its trace
  pub over_tables : script_is_built script ≡ true → All (AreOverTables (trace_of script front)) script.sections
  over_tables built =
      let views : views_are_built script.sections ≡ true = (and_parts (sections_are_built script.sections) _ (and_parts (sections_are_built script.sections && views_are_built script.sections) _ built).0).1 in
      All-from_recursion (AreOverTables (trace_of script front)) script.sections (each_section script.sections (by (nests script.sections) views))
    where
      by : (b : Bool) → (not b || is_built forms.Nested) ≡ true → b ≡ false
      by true h = sym h
      by false h = refl
