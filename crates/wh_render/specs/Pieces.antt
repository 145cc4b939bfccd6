-- Words and fields behind a first one, by which the parts of a reply are joined.
use Rattle.std.specs.Prelude.{List, None, Option, Some, [], codes, decimal, flat_map, ℕ, ◌∷◌}
use Rattle.wh_base.specs.declared.replies.ShownView.{ShownView}
use Rattle.def_transcript.specs.Texts.{point_text, state_text, yes_or_no}

-- a word behind a space, and nothing for an empty one
unfoldable pub spaced : List ℕ → List ℕ
spaced [] = []
spaced (b ∷ bs) = 32 ∷ b ∷ bs

-- words behind a first one
abbrev pub more_words : List (List ℕ) → List ℕ
more_words ws = flat_map spaced ws

-- a text behind this byte
abbrev pub behind : ℕ → List ℕ → List ℕ
behind mark text = mark ∷ text

-- texts behind a first one, each after this byte
abbrev pub more_parts : ℕ → List (List ℕ) → List ℕ
more_parts mark texts = flat_map (behind mark) texts

-- the first word
abbrev pub first_word : List (List ℕ) → List ℕ
first_word [] = []
first_word (w ∷ ws) = w

-- the words that say which statement of a block is refused
abbrev pub statement_words : Option ℕ → List (List ℕ)
statement_words None = []
statement_words (Some i) = codes "AT" ∷ decimal i ∷ []

-- what SHOW VIEW says of the view itself
abbrev pub view_words : ShownView → List (List ℕ)
view_words r =
    codes "VIEW" ∷ r.view ∷ codes "POINT" ∷ point_text r.point ∷ codes "STATE" ∷ state_text r.state ∷ codes "REGISTERED" ∷ yes_or_no r.registered
    ∷ codes "SUSPENDED" ∷ yes_or_no r.suspended ∷ []
