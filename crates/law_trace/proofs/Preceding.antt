-- A front of a trace precedes it, and so does each image that a session keeps.
use Rattle.std.proofs.Common.{◌≡◌, sym, ap, subst, ℕ, List, ◌∷◌, ◌++◌, map, Some}
use Rattle.std.specs.List.{list_any}
use Rattle.wh_base.specs.declared.statements.Event.{Event}
use Rattle.def_history.specs.Catalog.{Catalog}
use Rattle.def_journal.specs.Journal.{state_of}
use Rattle.def_journal.specs.State.{Begun, session_of}
use Rattle.law_trace.proofs.Growing.{Grows, base_stays, noted_stay, touched_stay, trace_grows}
use Rattle.law_trace.proofs.Imaging.{all_begun, all_opened}
use Rattle.law_trace.proofs.Tabling.{table_laws}
use Rattle.law_trace.proofs.Viewing.{Follows, gone_later, numbered_made, same_later, trace_follows, trace_ordered}
use Rattle.law_trace.specs.Laws.{ImageLaws}
use Rattle.law_trace.specs.Reached.{HasBegun, HasOpened, Precedes, catalog_of}

pub trace_precedes : (trace more : List Event) → Precedes (catalog_of trace) (catalog_of (trace ++ more))
trace_precedes trace more =
    let c : Catalog = catalog_of trace in
    let d : Catalog = catalog_of (trace ++ more) in
    let grows : Grows c d = trace_grows trace more in
    let follows : Follows c d = trace_follows trace more in
    record {
      scn = grows.scn;
      base = base_stays c d grows;
      changes = λ table from p low. ap (λ ns. map (λ n. n.change) ns) (noted_stay c d grows table from p low);
      touches = λ table from p low. ap (λ ts. map (λ t. t.touch) ts) (touched_stay c d grows table from p low);
      maintenance = λ table from p low. ap (λ ts. list_any (λ t. t.by_maintenance) ts) (touched_stay c d grows table from p low);
      made = follows.made;
      same = λ n v w before after. same_later c d follows n v w (numbered_made c (trace_ordered trace) n v before) before after;
      gone = gone_later c d follows;
      tables = table_laws.grown trace more;
    }

begun_before : (trace : List Event) (n : ℕ) (b : Begun) → (session_of (state_of trace) n).begun ≡ Some b → Precedes b.image (catalog_of trace)
begun_before trace n b found =
    let h : HasBegun trace n b = all_begun trace n b found in
    let front : Precedes (catalog_of h.front) (catalog_of trace) =
    subst (λ t. Precedes (catalog_of h.front) (catalog_of t)) (sym h.is) (trace_precedes h.front (h.event ∷ h.rest)) in
    subst (λ (c : Catalog). Precedes c (catalog_of trace)) (sym (ap (λ (b : Begun). b.image) h.kept)) front

opened_before : (trace : List Event) (n : ℕ) (image : Catalog) → (session_of (state_of trace) n).reading ≡ Some image → Precedes image (catalog_of trace)
opened_before trace n image found =
    let h : HasOpened trace n image = all_opened trace n image found in
    let front : Precedes (catalog_of h.front) (catalog_of trace) =
    subst (λ t. Precedes (catalog_of h.front) (catalog_of t)) (sym h.is) (trace_precedes h.front (h.event ∷ h.rest)) in
    subst (λ (c : Catalog). Precedes c (catalog_of trace)) (sym h.kept) front

pub image_laws : ImageLaws
image_laws = record { begun = all_begun; opened = all_opened; begun_before = begun_before; opened_before = opened_before }
