-- What was made of a draft that is built is built before its last command or section, and whether it is built with it.
use Rattle.std.proofs.Common.{◌≡◌, ℕ, List, [], ◌∷◌, ◌++◌, Bool, true, false, Option, Some, None, Ok, Err, cond, refl, ap, sym, subst, ◌∙◌, ◌&&◌, ◌||◌, append-nil}
use Rattle.std.proofs.lemmas.Bool.{and_from, and_parts}
use Rattle.std.specs.List.{list_all, list_any}
use Rattle.std.specs.Prelude.{◌==◌, codes, is_none, map, not, option_map, option_to_list}
use Rattle.def_built.specs.Commands.{command_is_built, commands_are_built}
use Rattle.def_built.specs.Form.{draft_is_built, section_is_built, sections_are_built, views_are_built}
use Rattle.def_built.specs.Forms.{is_built}
use Rattle.def_built.specs.declared.forms.Form.TheVariants as forms
use Rattle.def_grammar.specs.Forms.{statement_of, submit_of}
use Rattle.def_grammar.specs.Lines.{Directive, EndLoad, EndScript, LoadOf, Order, SessionAt, Setup, Unknown, WorkersAt}
use Rattle.def_grammar.specs.Script.{Draft, Drafted, OpenBlockAt, StatementTokens, begin_session, command_by, in_section, in_setup, is_inner, is_later, is_never_inner, is_only_word, last_number, may_have_workers, open_fault, sections_of, session_number, take_command, take_directive, take_inner, take_load, take_own, take_statement, with_command, with_workers, word_fault, worker_number}
use Rattle.wh_base.specs.Lists.{is_empty, option_case, unless, unless_then}
use Rattle.wh_base.specs.declared.statements.BadScript.{BadScript}
use Rattle.wh_base.specs.declared.statements.Command.{Command}
use Rattle.wh_base.specs.declared.statements.Command.TheVariants as commands
use Rattle.wh_base.specs.declared.statements.ScriptKind.{ScriptKind}
use Rattle.wh_base.specs.declared.statements.Section.{Section}
use Rattle.wh_base.specs.declared.tokens.Token.{Token}
use Rattle.wh_script.proofs.LastCommands.{all_more, but_last-end}
use Rattle.wh_script.specs.Built.{IsBuiltBefore, but_last, may_stand, shorter_last, shorter_section}

-- ---- the last section

-- all of some sections before others that are built
all_before : (bs : List Section) (b : Section) (cs : List Section) → sections_are_built ((b ∷ bs) ++ cs) ≡ true → list_all section_is_built (b ∷ bs) ≡ true
all_before [] b [] h = and_from (section_is_built b) true h refl
all_before [] b (c ∷ cs) h =
    let all : (section_is_built b && list_all section_is_built (c ∷ cs)) ≡ true = (and_parts (is_built forms.Session) _ h).1 in
    and_from (section_is_built b) true (and_parts (section_is_built b) (list_all section_is_built (c ∷ cs)) all).0 refl
all_before (x ∷ xs) b cs h = front (b ∷ x ∷ xs) cs (and_parts (is_built forms.Session) _ h).1
  where
    front : (es ds : List Section) → list_all section_is_built (es ++ ds) ≡ true → list_all section_is_built es ≡ true
    front [] ds k = refl
    front (e ∷ es) ds k =
        and_from (section_is_built e) (list_all section_is_built es) (and_parts (section_is_built e) (list_all section_is_built (es ++ ds)) k).0
        (front es ds (and_parts (section_is_built e) (list_all section_is_built (es ++ ds)) k).1)

last_built : (before : List Section) (s : Section) → sections_are_built (before ++ s ∷ []) ≡ true → section_is_built s ≡ true
last_built [] s h = h
last_built (b ∷ bs) s h = (and_parts (list_all section_is_built (b ∷ bs)) (section_is_built s) (sym (all_more section_is_built (b ∷ bs) s) ∙ all bs h)).1
  where
    all : (xs : List Section) → sections_are_built ((b ∷ xs) ++ s ∷ []) ≡ true → list_all section_is_built ((b ∷ xs) ++ s ∷ []) ≡ true
    all [] k = (and_parts (is_built forms.Session) _ k).1
    all (x ∷ xs) k = (and_parts (is_built forms.Session) _ k).1

-- the commands before the last one
pub section-commands : (before : List Section) (s : Section) → sections_are_built (before ++ shorter_section s.session s.commands) ≡ true → commands_are_built (but_last s.commands) ≡ true
section-commands before s h = by_commands s.commands h
  where
    by_commands : (cs : List Command) → sections_are_built (before ++ shorter_section s.session cs) ≡ true → commands_are_built (but_last cs) ≡ true
    by_commands [] k = refl
    by_commands (c ∷ cs) k = (and_parts ((s.session == 0) || is_built forms.Session) (commands_are_built (but_last (c ∷ cs))) (last_built before _ k)).1

session_twice : (session setup rest : Bool) → (session && ((setup || session) && rest)) ≡ (session && rest)
session_twice true true rest = refl
session_twice true false rest = refl
session_twice false setup rest = refl

-- the last section is built where it may stand there and its commands are
pub section-built : (before : List Section) (s : Section) → sections_are_built (before ++ shorter_section s.session s.commands) ≡ true → (may_stand before s.session && commands_are_built s.commands) ≡ sections_are_built (before ++ s ∷ [])
section-built [] s h = refl
section-built (b ∷ bs) s h =
    let all : list_all section_is_built (b ∷ bs) ≡ true = all_before bs b (shorter_section s.session s.commands) h in
    let more : list_all section_is_built ((b ∷ bs) ++ s ∷ []) ≡ section_is_built s = all_more section_is_built (b ∷ bs) s ∙ ap (λ t. t && section_is_built s) all in
    sym (by_sections bs ∙ ap (λ t. is_built forms.Session && t) more ∙ session_twice (is_built forms.Session) (s.session == 0) (commands_are_built s.commands))
  where
    by_sections : (xs : List Section) → sections_are_built ((b ∷ xs) ++ s ∷ []) ≡ (is_built forms.Session && list_all section_is_built ((b ∷ xs) ++ s ∷ []))
    by_sections [] = refl
    by_sections (x ∷ xs) = refl

-- the same, where it may stand there
pub section-last : (before : List Section) (s : Section) (stands commands : Bool) → sections_are_built (before ++ shorter_section s.session s.commands) ≡ true → stands ≡ true → stands ≡ may_stand before s.session → commands ≡ commands_are_built s.commands → commands ≡ sections_are_built (before ++ s ∷ [])
section-last before s stands commands h there is e = e ∙ sym (ap (λ b. b && commands_are_built s.commands) (sym is ∙ there)) ∙ section-built before s h

pub ruleset sections = (section-commands, section-built, section-last, append-nil)

-- ---- without the last command

all_but_last : {A : Type 0} (p : A → Bool) (x : A) (xs : List A) → list_all p (x ∷ xs) ≡ true → list_all p (but_last (x ∷ xs)) ≡ true
all_but_last p x [] h = refl
all_but_last p x (y ∷ ys) h = and_from (p x) (list_all p (but_last (y ∷ ys))) (and_parts (p x) (list_all p (y ∷ ys)) h).0 (all_but_last p y ys (and_parts (p x) (list_all p (y ∷ ys)) h).1)

commands_before : (c : Command) (cs : List Command) → commands_are_built (c ∷ cs) ≡ true → commands_are_built (but_last (c ∷ cs)) ≡ true
commands_before c cs h = all_but_last command_is_built c cs h

section_before : (n : ℕ) (c : Command) (cs : List Command) → section_is_built (record { session = n; commands = c ∷ cs }) ≡ true → section_is_built (record { session = n; commands = but_last (c ∷ cs) }) ≡ true
section_before n c cs h =
    and_from ((n == 0) || is_built forms.Session) _ (and_parts ((n == 0) || is_built forms.Session) (commands_are_built (c ∷ cs)) h).0
    (commands_before c cs (and_parts ((n == 0) || is_built forms.Session) (commands_are_built (c ∷ cs)) h).1)

-- the sections before the last one, which is built too
sections_front : (before : List Section) (s : Section) → sections_are_built (before ++ s ∷ []) ≡ true → sections_are_built before ≡ true
sections_front [] s h = refl
sections_front (b ∷ []) s h = (and_parts (section_is_built b) (section_is_built s && true) (and_parts (is_built forms.Session) (section_is_built b && (section_is_built s && true)) h).1).0
sections_front (b ∷ x ∷ xs) s h =
    and_from (is_built forms.Session) (list_all section_is_built (b ∷ x ∷ xs)) (and_parts (is_built forms.Session) (list_all section_is_built ((b ∷ x ∷ xs) ++ s ∷ [])) h).0
    (all_before (x ∷ xs) b (s ∷ []) h)

-- another last section that is built
sections_last : (before : List Section) (s t : Section) → sections_are_built (before ++ s ∷ []) ≡ true → section_is_built t ≡ true → sections_are_built (before ++ t ∷ []) ≡ true
sections_last [] s t h k = k
sections_last (b ∷ bs) s t h k = by_sections bs h (all_before bs b (s ∷ []) h)
  where
    by_sections : (xs : List Section) → sections_are_built ((b ∷ xs) ++ s ∷ []) ≡ true → list_all section_is_built (b ∷ xs) ≡ true → sections_are_built ((b ∷ xs) ++ t ∷ []) ≡ true
    by_sections [] e f = and_from (is_built forms.Session) (list_all section_is_built (b ∷ t ∷ [])) (and_parts (is_built forms.Session) (list_all section_is_built (b ∷ s ∷ [])) e).0 (all_more section_is_built (b ∷ []) t ∙ and_from (list_all section_is_built (b ∷ [])) (section_is_built t) f k)
    by_sections (x ∷ xs) e f = and_from (is_built forms.Session) (list_all section_is_built ((b ∷ x ∷ xs) ++ t ∷ [])) (and_parts (is_built forms.Session) (list_all section_is_built ((b ∷ x ∷ xs) ++ s ∷ [])) e).0 (all_more section_is_built (b ∷ x ∷ xs) t ∙ and_from (list_all section_is_built (b ∷ x ∷ xs)) (section_is_built t) f k)

before_of : (before : List Section) (o : Option Section) → sections_are_built (before ++ option_to_list o) ≡ true → sections_are_built (before ++ shorter_last o) ≡ true
before_of before None h = h
before_of before (Some s) h = by_commands s.session s.commands h
  where
    by_commands : (n : ℕ) (cs : List Command) → sections_are_built (before ++ record { session = n; commands = cs } ∷ []) ≡ true → sections_are_built (before ++ shorter_section n cs) ≡ true
    by_commands n [] k = rw (append-nil before) (sections_front before _ k)
    by_commands n (c ∷ cs) k = sections_last before (record { session = n; commands = c ∷ cs }) _ k (section_before n c cs (last_built before _ k))

-- ---- one command more

shorter_more : (n : ℕ) (cs : List Command) (c : Command) → shorter_section n (cs ++ c ∷ []) ≡ record { session = n; commands = cs } ∷ []
shorter_more n [] c = refl
shorter_more n (b ∷ cs) c = ap (λ xs. record { session = n; commands = xs } ∷ []) (but_last-end (b ∷ cs) c)

abbrev pub more_section : Command → Section → Section
more_section c s = record s { commands = s.commands ++ c ∷ [] }

more_before : (before : List Section) (o : Option Section) (c : Command) → sections_are_built (before ++ option_to_list o) ≡ true → sections_are_built (before ++ shorter_last (option_map (more_section c) o)) ≡ true
more_before before None c h = h
more_before before (Some s) c h = subst (λ xs. sections_are_built (before ++ xs) ≡ true) (sym (shorter_more s.session s.commands c)) h

-- ---- the steps

-- what holds of a draft that a step gives
abbrev pub Each : (Draft → Type 0) → Drafted → Type 0
Each P (Ok d) = P d
Each P (Err b) = Unit {0}

either : (P : Draft → Type 0) (b : Bool) (r s : Drafted) → Each P r → Each P s → Each P (cond b r s)
either P true r s h k = h
either P false r s h k = k

by_option : {A : Type 0} (P : Draft → Type 0) (o : Option A) (r : Drafted) (f : A → Drafted) → Each P r → ((x : A) → Each P (f x)) → Each P (option_case o r f)
by_option P None r f h k = h
by_option P (Some x) r f h k = k x

unless_fault : (P : Draft → Type 0) (o : Option BadScript) (d : Draft) → P d → Each P (unless o d)
unless_fault P None d h = h
unless_fault P (Some b) d h = tt

unless_open : (P : Draft → Type 0) (o : Option BadScript) (r : Drafted) → Each P r → Each P (unless_then o r)
unless_open P None r h = h
unless_open P (Some b) r h = tt

step_of : (P : Draft → Type 0) (r : Drafted) (e : Draft) → Each P r → r ≡ Ok e → P e
step_of P r e h k = subst (Each P) k h

sections_of_built : (d : Draft) → draft_is_built d ≡ true → sections_are_built (sections_of d) ≡ true
sections_of_built d h = (and_parts (sections_are_built (sections_of d)) (views_are_built (sections_of d)) (and_parts (sections_are_built (sections_of d) && views_are_built (sections_of d)) _ h).0).0

module _ (d : Draft) (built : sections_are_built (sections_of d) ≡ true) where
  same : IsBuiltBefore d
  same = before_of d.before d.now built

  more : (c : Command) → IsBuiltBefore (with_command d c)
  more c = more_before d.before d.now c built

  own_step : (line : ℕ) (ts : List Token) → Each IsBuiltBefore (take_own d line ts)
  own_step line ts = either IsBuiltBefore (is_only_word (codes "BEGIN") ts) _ _ same (by_option IsBuiltBefore (statement_of ts) _ _ tt (λ s. more (command_by s)))

  command_step : (line : ℕ) (ts : List Token) → Each IsBuiltBefore (take_command d line ts)
  command_step line ts = by_option IsBuiltBefore (submit_of ts) _ _ (own_step line ts) (λ s. either IsBuiltBefore (in_setup d) _ _ tt (more (commands.Submit s)))

  inner_step : (b : OpenBlockAt) (line : ℕ) (ts : List Token) → Each IsBuiltBefore (take_inner d b line ts)
  inner_step b line ts =
      either IsBuiltBefore (is_only_word (codes "COMMIT") ts) _ _ (more (commands.Block (record { statements = b.statements })))
      (either IsBuiltBefore (is_never_inner ts) _ _ tt (by_option IsBuiltBefore (statement_of ts) _ _ tt (λ s. either IsBuiltBefore (is_inner s) _ _ same tt)))

  statement_step : (line : ℕ) (p : StatementTokens) → Each IsBuiltBefore (take_statement d line p)
  statement_step line p =
      either IsBuiltBefore (not (in_section d)) _ _ tt
      (either IsBuiltBefore (is_none p.closed) _ _ same (by_option IsBuiltBefore d.block _ _ (command_step line p.tokens) (λ b. inner_step b line p.tokens)))

  load_step : (line : ℕ) (n block : List ℕ) (closed : Bool) → Each IsBuiltBefore (take_load d line n block closed)
  load_step line n block closed = unless_fault IsBuiltBefore _ _ (more _)

  behind_all : sections_are_built (sections_of d ++ []) ≡ true
  behind_all = rw (append-nil (sections_of d)) built

  session_step : (line : ℕ) (wrong : ScriptKind) (o : Option ℕ) → Each IsBuiltBefore (begin_session d line wrong o)
  session_step line wrong None = tt
  session_step line wrong (Some n) = either IsBuiltBefore (is_later (last_number d) n) _ _ behind_all tt

  workers_step : (line : ℕ) (wrong : ScriptKind) (o : Option ℕ) → Each IsBuiltBefore (with_workers d line wrong o)
  workers_step line wrong None = tt
  workers_step line wrong (Some n) = behind_all

  directive_step : (line : ℕ) (t : Directive) → Each IsBuiltBefore (take_directive d line t)
  directive_step line Setup = either IsBuiltBefore (is_empty (sections_of d) && (is_none d.order && is_none d.workers)) _ _ behind_all tt
  directive_step line (SessionAt w) = either IsBuiltBefore (is_none d.order) _ _ (unless_open IsBuiltBefore (open_fault d) _ (session_step line (word_fault w) (session_number w))) tt
  directive_step line (Order ws) =
      either IsBuiltBefore (is_none d.order) _ _
      (unless_open IsBuiltBefore (open_fault d) _ (either IsBuiltBefore (list_any is_none (map session_number ws)) _ _ tt (unless_fault IsBuiltBefore _ _ behind_all)))
      tt
  directive_step line (LoadOf n) = tt
  directive_step line EndLoad = tt
  directive_step line EndScript = tt
  directive_step line Unknown = tt
  directive_step line (WorkersAt w) = either IsBuiltBefore (may_have_workers d) _ _ (unless_open IsBuiltBefore (open_fault d) _ (workers_step line (word_fault w) (worker_number w))) tt

pub statement-before : (d e : Draft) (line : ℕ) (p : StatementTokens) → draft_is_built d ≡ true → take_statement d line p ≡ Ok e → IsBuiltBefore e
statement-before d e line p h k = step_of IsBuiltBefore (take_statement d line p) e (statement_step d (sections_of_built d h) line p) k

pub directive-before : (d e : Draft) (line : ℕ) (t : Directive) → draft_is_built d ≡ true → take_directive d line t ≡ Ok e → IsBuiltBefore e
directive-before d e line t h k = step_of IsBuiltBefore (take_directive d line t) e (directive_step d (sections_of_built d h) line t) k

pub load-before : (d e : Draft) (line : ℕ) (n block : List ℕ) (closed : Bool) → draft_is_built d ≡ true → take_load d line n block closed ≡ Ok e → IsBuiltBefore e
load-before d e line n block closed h k = step_of IsBuiltBefore (take_load d line n block closed) e (load_step d (sections_of_built d h) line n block closed) k

pub ruleset steps = (statement-before, directive-before, load-before)
