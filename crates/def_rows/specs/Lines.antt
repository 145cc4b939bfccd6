-- The words of the worked examples: what the program writes (`output`) for the lines of an input, each with its line end (`lines_text`).
pub use Rattle.def_transcript.specs.Texts.{lines_text}
pub use Rattle.def_output.specs.Output.{Checking, Generating, Ordering, form_of, is_run, output, run_version}
pub use Rattle.wh_base.specs.declared.values.Version.TheVariants.{One, Two}
-- what a proof by computing looks into: numbers as text, UTF-8, tokens, and the reader of LOAD
unfoldable pub use Rattle.std.specs.Fmt.{digits}
unfoldable pub use Rattle.std.specs.Str.{chars, is_utf8}
unfoldable pub use Rattle.std.specs.Str.Lossy.{utf8_valid_len}
unfoldable pub use Rattle.wh_lex.specs.Lex.{tokens_of}
unfoldable pub use Rattle.wh_lex.specs.Tokens.{front_of}
unfoldable pub use Rattle.csv.specs.Machine.{next_record}
unfoldable pub use Rattle.csv.specs.Reading.{strip_bom}
