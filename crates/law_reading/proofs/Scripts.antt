-- Each command of a script that is read asks what its text reads as.
use Rattle.std.proofs.Common.{◌≡◌, ℕ, List, [], Bool, Option, None, Some, Ok}
use Rattle.std.proofs.lemmas.List.Elements.{All-append, All-cons, All-nil, All-push}
use Rattle.std.specs.List.{All}
use Rattle.std.specs.Prelude.{option_map, option_to_list}
use Rattle.wh_base.specs.declared.statements.Command.{Command}
use Rattle.wh_base.specs.declared.statements.Script.{Script}
use Rattle.wh_base.specs.declared.statements.Section.{Section}
use Rattle.def_built.specs.Form.{built_script, draft_is_built}
use Rattle.def_grammar.specs.Script.{Draft, script_where}
use Rattle.def_grammar.specs.Written.{IfThere}
use Rattle.law_views.specs.Read.{IsRead}
use Rattle.law_reading.proofs.Statements.{statement-reads}
use Rattle.law_reading.proofs.Walk.{Keeps, longer, script-holds, so_far}

abbrev SectionReads : Section → Type 0
SectionReads s = All IsRead s.commands

-- the sections so far ask what their texts read as
record SoFarReads (before : List Section) (now : Option Section) : Type 0 where
  earlier : All SectionReads before
  current : IfThere SectionReads now

the-last : (o : Option Section) → IfThere SectionReads o → All SectionReads (option_to_list o)
the-last None h = All-nil SectionReads
the-last (Some s) h = All-cons SectionReads s [] h (All-nil SectionReads)

all-sections : (before : List Section) (now : Option Section) → SoFarReads before now → All SectionReads (so_far before now)
all-sections before now h = All-append SectionReads before (option_to_list now) h.earlier (the-last now h.current)

one-more : (o : Option Section) (c : Command) → IsRead c → IfThere SectionReads o → IfThere SectionReads (option_map (longer c) o)
one-more None c h k = tt
one-more (Some s) c h k = All-push IsRead s.commands c k h

keeps-reading : Keeps IsRead SoFarReads
keeps-reading = record {
  command = λ before now c read h. record { earlier = h.earlier; current = one-more now c read h.current };
  setup = λ before now first h. record { earlier = all-sections before now h; current = All-nil IsRead };
  session = λ before now n small later h. record { earlier = all-sections before now h; current = All-nil IsRead };
  ends = λ before now h. record { earlier = all-sections before now h; current = tt };
}

nothing-read : SoFarReads [] None
nothing-read = record { earlier = All-nil SectionReads; current = tt }

pub script-reads : (is_built : Draft → Bool) (bytes : List ℕ) (tail : Bool) (script : Script) (place : ℕ) → script_where is_built bytes tail ≡ Ok (script, place)
    → All (λ section. All IsRead section.commands) script.sections
script-reads is_built bytes tail script place e =
    let held : SoFarReads script.sections None =
    script-holds IsRead SoFarReads keeps-reading (λ statements. tt) (λ statement. tt) statement-reads nothing-read is_built bytes tail script place e in
    held.earlier

pub built-script-reads : (bytes : List ℕ) (tail : Bool) (script : Script) (place : ℕ) → built_script bytes tail ≡ Ok (script, place)
    → All (λ section. All IsRead section.commands) script.sections
unfolding built_script
built-script-reads bytes tail script place e = script-reads draft_is_built bytes tail script place e
