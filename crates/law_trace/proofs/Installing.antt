-- What is computed over the image of a begin is what the view stores at the SCN of the image.
use Rattle.std.proofs.Common.{◌≡◌, ◌∙◌, sym, ap, refl, subst, arith, ℕ, ◌≤◌, List, [], ◌∷◌, ◌++◌, Option, None, Some, ◌==◌}
use Rattle.std.specs.Prelude.{option_and_then}
use Rattle.std.specs.Option.{ForSome}
use Rattle.wh_base.specs.Lists.{option_case, same_text}
use Rattle.wh_base.specs.declared.queries.StarQuery.{StarQuery}
use Rattle.wh_base.specs.declared.statements.Event.{Event}
use Rattle.wh_base.specs.declared.views.ViewDef.{ViewDef}
use Rattle.def_history.specs.Catalog.{Catalog, View, base_at, base_now, view_named, view_numbered}
use Rattle.def_history.specs.Staleness.{content}
use Rattle.def_journal.specs.Journal.{state_of}
use Rattle.def_journal.specs.State.{Begun, session_of}
use Rattle.def_meaning.specs.Meaning.{stored}
use Rattle.law_trace.proofs.Growing.{Grows, base_stays, trace_grows}
use Rattle.law_trace.proofs.Imaging.{all_begun}
use Rattle.law_trace.proofs.Listed.{each_found}
use Rattle.law_trace.proofs.Pointing.{trace_pointed}
use Rattle.law_trace.proofs.Preceding.{image_laws, trace_precedes}
use Rattle.law_trace.proofs.Viewing.{Earlier, Follows, IsNumbered, mapped, trace_follows, trace_ordered}
use Rattle.law_trace.specs.Laws.{InstallLaws, Stands}
use Rattle.law_trace.specs.Reached.{HasBegun, Precedes, begun_over, catalog_of}

-- the number of a view that a begin found was made before
begun_made : (front : List Event) (name : List ℕ) (k : ℕ) → (begun_over (catalog_of front) name).view ≡ Some k → k ≤ (catalog_of front).views_made
begun_made front name k is =
    let c : Catalog = catalog_of front in
    let found = mapped (λ (v : View). v.def.view) (view_named c name) k is in
    let numbered : IsNumbered c.views_made found.0 = each_found (IsNumbered c.views_made) (λ v. same_text v.def.name name) c.views found.0 (trace_ordered front).numbered found.1 in
    subst (λ n. n ≤ c.views_made) found.2 numbered.1

install_stands : (trace : List Event) (n k : ℕ) (b : Begun) (w : View) → (session_of (state_of trace) n).begun ≡ Some b → b.view ≡ Some k
    → view_numbered (catalog_of trace) k ≡ Some w → Stands (catalog_of trace) b w
install_stands trace n k b w begun view now =
    let h : HasBegun trace n b = all_begun trace n b begun in
    let c : Catalog = catalog_of h.front in
    let image : b.image ≡ c = ap (λ (b : Begun). b.image) h.kept in
    let follows : Follows c (catalog_of trace) = subst (λ t. Follows c (catalog_of t)) (sym h.is) (trace_follows h.front (h.event ∷ h.rest)) in
    let grows : Grows c (catalog_of trace) = subst (λ t. Grows c (catalog_of t)) (sym h.is) (trace_grows h.front (h.event ∷ h.rest)) in
    let made : k ≤ c.views_made = begun_made h.front h.asked.name k (sym (ap (λ (b : Begun). b.view) h.kept) ∙ view) in
    let was : Earlier c k w = follows.kept k w made now in
    let base : base_at (catalog_of trace) b.image.scn ≡ base_now b.image =
    subst (λ (i : Catalog). base_at (catalog_of trace) i.scn ≡ base_now i) (sym image) (base_stays c (catalog_of trace) grows c.scn (omega arith)) in
    record {
      then = was.view;
      found = ap (λ o. option_and_then (view_numbered b.image) o) view ∙ ap (λ (i : Catalog). view_numbered i k) image ∙ was.found;
      same = was.same;
      base = base;
      content = ap (λ (d : ViewDef). stored d.query (base_at (catalog_of trace) b.image.scn)) was.same ∙ ap (λ base. stored was.view.def.query base) base;
    }

-- ---- what a view stores

stored_at : (c d : Catalog) (v w : StarQuery) (o : Option ℕ) → w ≡ v → ((p : ℕ) → p ≤ c.scn → base_at d p ≡ base_at c p) → ForSome o (λ p. p ≤ c.scn)
    → option_case o [] (λ p. stored w (base_at d p)) ≡ option_case o [] (λ p. stored v (base_at c p))
stored_at c d v w None same base low = refl
stored_at c d v w (Some p) same base low = ap (λ q. stored q (base_at d p)) same ∙ ap (λ base. stored v base) (base p (low p refl))

content_lasts : (trace more : List Event) (n : ℕ) (v w : View) → view_numbered (catalog_of trace) n ≡ Some v
    → view_numbered (catalog_of (trace ++ more)) n ≡ Some w → w.point ≡ v.point → content (catalog_of (trace ++ more)) w ≡ content (catalog_of trace) v
content_lasts trace more n v w before after point =
    let c : Catalog = catalog_of trace in
    let d : Catalog = catalog_of (trace ++ more) in
    let h : Precedes c d = trace_precedes trace more in
    let low : ForSome v.point (λ p. p ≤ c.scn) = each_found (λ u. ForSome u.point (λ p. p ≤ c.scn)) (λ u. u.def.view == n) c.views v (trace_pointed trace) before in
    ap (λ o. option_case o [] (λ p. stored w.def.query (base_at d p))) point
    ∙ stored_at c d v.def.query w.def.query v.point (ap (λ (d : ViewDef). d.query) (h.same n v w before after)) h.base low

install_each : (trace : List Event) (n k p : ℕ) (b : Begun) (v w : View) → (session_of (state_of trace) n).begun ≡ Some b → view_numbered b.image k ≡ Some v
    → view_numbered (catalog_of trace) k ≡ Some w → p ≤ b.image.scn → stored w.def.query (base_at (catalog_of trace) p) ≡ stored v.def.query (base_at b.image p)
install_each trace n k p b v w begun was now low =
    let h : Precedes b.image (catalog_of trace) = image_laws.begun_before trace n b begun in
    ap (λ (d : ViewDef). stored d.query (base_at (catalog_of trace) p)) (h.same k v w was now) ∙ ap (λ base. stored v.def.query base) (h.base p low)

pub install_laws : InstallLaws
install_laws = record { lasts = content_lasts; stands = install_stands; each = install_each }
