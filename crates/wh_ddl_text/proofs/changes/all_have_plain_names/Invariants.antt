use Rattle.std.proofs.Common.{◌≡◌, drop}
use Rattle.std.specs.List.{list_all}
use Rattle.std.specs.Prelude.{flat_map}
use Rattle.def_grammar.specs.Forms.{is_plain_name}
use Rattle.def_resolve.specs.Names.{condition_names}
use Rattle.wh_ddl_text.proofs.changes.all_have_plain_names.Given as goal

-- all names are plain where those of the conditions from here on are
abbrev pub invariant-loop-condition : goal.invariant-loop-condition
invariant-loop-condition l = list_all is_plain_name (flat_map condition_names (drop l.condition-index l.conditions)) ≡ list_all is_plain_name (flat_map condition_names l.conditions)
