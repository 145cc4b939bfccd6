-- What stays true of the partitions of a table.
use Rattle.std.proofs.Common.{◌<◌, ◌≤◌, ℕ, suc, List, arith}
use Rattle.std.proofs.lemmas.List.Elements.{All-cons, All-head, All-tail, All-weaker}
use Rattle.std.specs.List.{All}
use Rattle.std.proofs.lemmas.List.Kept.{AllPairs-cons}
use Rattle.wh_base.specs.declared.tables.Part.{Part}
use Rattle.wh_partmap.specs.History.{PartHistory, lists_of}
use Rattle.wh_partmap.proofs.Counted.{counted_still}
use Rattle.wh_partmap.specs.Laws.{AreParts, BoundsRise, IsPartHistory, ListsFall}
use Rattle.wh_partmap.specs.declared.lists.PartList.{PartList}

pub parts_now : (h : PartHistory) → IsPartHistory h → AreParts h.made h.parts
parts_now h kept = All-head (λ (l : PartList). AreParts h.made l.parts) _ h.earlier kept.parts

pub bounds_now : (h : PartHistory) → IsPartHistory h → BoundsRise h.parts
bounds_now h kept = (parts_now h kept).bounds

still : (h : PartHistory) (made : ℕ) → IsPartHistory h → h.made ≤ made → All (λ (l : PartList). AreParts made l.parts) (lists_of h)
still h made kept le = All-weaker (λ (l : PartList). AreParts h.made l.parts) (λ (l : PartList). AreParts made l.parts) (λ l are. counted_still h.made made l.parts le are) (lists_of h) kept.parts

earlier_below : (h : PartHistory) → IsPartHistory h → All (λ (m : PartList). m.since < h.since) h.earlier
earlier_below h kept k d l = kept.lists 0 (suc k) d (omega arith) (omega arith)

earlier_fall : (h : PartHistory) → IsPartHistory h → ListsFall h.earlier
earlier_fall h kept i j d l m = kept.lists (suc i) (suc j) d (omega arith) (omega arith)

-- a list from a later SCN on, above all lists so far
pub begun_more : (h : PartHistory) (parts : List Part) (made scn : ℕ) → IsPartHistory h → h.since < scn → h.made ≤ made → AreParts made parts → IsPartHistory (record h { parts = parts; since = scn; earlier = lists_of h; made = made })
begun_more h parts made scn kept less le are =
    record {
      parts = All-cons (λ (l : PartList). AreParts made l.parts) (record { since = scn; parts = parts }) (lists_of h) are (still h made kept le);
      lists = AllPairs-cons (λ (l : PartList) m. m.since < l.since) (record { since = scn; parts = parts }) (lists_of h) (before h scn kept less) kept.lists;
      begun = kept.begun;
      touches = kept.touches;
    }
  where
    before : (h : PartHistory) (scn : ℕ) → IsPartHistory h → h.since < scn → All (λ (m : PartList). m.since < scn) (lists_of h)
    before h scn kept less =
        All-cons (λ (m : PartList). m.since < scn) (record { since = h.since; parts = h.parts }) h.earlier less
        (All-weaker (λ (m : PartList). m.since < h.since) (λ (m : PartList). m.since < scn) (λ m l. omega arith) h.earlier (earlier_below h kept))

-- other partitions in place of those now
pub put_instead : (h : PartHistory) (parts : List Part) (made : ℕ) → IsPartHistory h → h.made ≤ made → AreParts made parts → IsPartHistory (record h { parts = parts; made = made })
put_instead h parts made kept le are =
    record {
      parts = All-cons (λ (l : PartList). AreParts made l.parts) (record { since = h.since; parts = parts }) h.earlier are (All-tail (λ (l : PartList). AreParts made l.parts) (record { since = h.since; parts = h.parts }) h.earlier (still h made kept le));
      lists = AllPairs-cons (λ (l : PartList) m. m.since < l.since) (record { since = h.since; parts = parts }) h.earlier (earlier_below h kept) (earlier_fall h kept);
      begun = kept.begun;
      touches = kept.touches;
    }
