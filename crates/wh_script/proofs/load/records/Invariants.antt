use Rattle.std.proofs.Common.{◌≡◌, ◌++◌, ◌+◌, ◌-◌, ℕ, List, Some, length}
use Rattle.csv.specs.Reading.{Ready, default_config, source_of}
use Rattle.csv.specs.declared.reader.Trim.TheVariants as trim
use Rattle.def_grammar.specs.Script.{records, records_from}
use Rattle.wh_script.proofs.load.records.Given as goal

-- the rows so far, and those that the rest of the block has
abbrev pub invariant-loop-turn : goal.invariant-loop-turn
invariant-loop-turn l = (l.reader.trim ≡ trim.None) × Ready l.reader × (l.reader.config ≡ default_config)
    × (rest : List ℕ) × (source_of (λ s. Some s.now) l.reader ≡ Some rest)
    × (l.rows ++ records_from (length l.block + 1 - l.turn) l.reader.state rest ≡ records l.block)
