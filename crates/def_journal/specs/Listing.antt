-- A refresh of a list of views: it has one begin and one install, and either all of its views move or none.
use Rattle.std.specs.List.{list_any}
use Rattle.std.specs.Prelude.{Bool, Err, List, None, Ok, Option, Result, Some, [], cond, filter, filter_map, find, fold, length, not, option_map, suc, sum_by, zero, ℕ, ◌++◌, ◌==◌, ◌∷◌}
use Rattle.wh_base.specs.Lists.{first_of, first_some, has_text, is_empty, option_case, option_nat_is, option_nat_same, where_true, ◌>>=◌}
use Rattle.wh_base.specs.declared.replies.ListLine.{ListLine}
use Rattle.wh_base.specs.declared.replies.Refusal.{Refusal}
use Rattle.wh_base.specs.declared.replies.Refusal.TheVariants.{NameTaken, NoSuchObject, OnlyReading, Overtaken}
use Rattle.wh_base.specs.declared.statements.RefreshView.{RefreshView}
use Rattle.def_history.specs.Catalog.{Catalog, View, view_named, view_numbered}
use Rattle.def_journal.specs.Refreshing.{Listed, change_view, computed_for, ended, install_refresh, new_point, refreshed_to}
use Rattle.def_journal.specs.State.{Session, State, Step, only_reads, refused, replied, with_catalog}
use Rattle.def_resolve.specs.Earlier.{first_in_turn}
use Rattle.wh_base.specs.declared.replies.Reply.TheVariants as reply

-- ---- the views of a list

-- All names of a refresh, in the order of the list.
abbrev pub all_names : RefreshView → List (List ℕ)
all_names r = r.name ∷ r.more

-- A name of no view, and then one that stands before it in the list.
abbrev pub name_refusal : Catalog → List (List ℕ) → List ℕ → Option Refusal
name_refusal c earlier name =
    first_some (
    option_case (view_named c name) (Some (NoSuchObject name)) (λ v. None)
    ∷ where_true (has_text earlier name) (NameTaken name)
    ∷ [])

-- The first of these, name by name.
abbrev pub names_refusal : Catalog → RefreshView → Option Refusal
names_refusal c r = first_in_turn (name_refusal c) (all_names r)

-- The views that are named, as the image has them.
abbrev pub views_named : Catalog → RefreshView → List View
views_named c r = filter_map (view_named c) (all_names r)

-- ---- the order in which they are computed

-- The view beneath is none of those that are left.
abbrev pub is_ready : List View → View → Bool
is_ready left v = not (list_any (λ w. option_nat_is v.def.beneath w.def.view) left)

-- Each time the first of those that are left of which the view beneath is not among them; at most n times.
abbrev pub in_turn : ℕ → List View → List View
in_turn zero left = []
in_turn (suc n) left = option_case (find (is_ready left) left) [] (λ v. v ∷ in_turn n (filter (λ w. not (w.def.view == v.def.view)) left))

-- The views in this order. A view beneath is older than those over it, so none is left out.
abbrev pub by_turns : List View → List View
by_turns views = in_turn (length views) views

-- ---- what is computed

-- The base rows read so far.
abbrev pub reads_so_far : List Listed → ℕ
reads_so_far done = sum_by (λ l. l.computed.read) done

-- A refusal with the number of rows read before it.
abbrev pub or_having_read : {A : Type 0} → ℕ → Result A Refusal → Result A (ℕ × Refusal)
or_having_read n (Ok x) = Ok x
or_having_read n (Err code) = Err (n, code)

-- What is computed of these views, one after another, behind what was computed before; or the first refusal.
abbrev pub computed_each : Catalog → RefreshView → List Listed → List View → Result (List Listed) (ℕ × Refusal)
computed_each c r done [] = Ok done
computed_each c r done (v ∷ vs) =
    or_having_read (reads_so_far done) (computed_for c done r v)
    >>= (λ x. computed_each c r (done ++ record { view = v; point = new_point c done v; computed = x } ∷ []) vs)

-- What is computed of the whole list over its image.
abbrev pub computed_list : Catalog → RefreshView → Result (List Listed) (ℕ × Refusal)
computed_list c r = computed_each c r [] (by_turns (views_named c r))

-- ---- the install

-- The view was dropped since the begin, or has another point than then.
abbrev pub moved_refusal : Catalog → View → Option Refusal
moved_refusal now v =
    option_case (view_numbered now v.def.view) (Some (NoSuchObject v.def.name))
    (λ w. where_true (not (option_nat_same v.point w.point)) (Overtaken v.def.name v.point w.point))

-- The catalog in which each of these views has its new point.
abbrev pub all_refreshed : List Listed → Catalog → Catalog
all_refreshed done c = fold (λ d l. change_view l.view.def.view (refreshed_to l.point) d) c done

-- What was done with a view: the method used and the number of its entries.
abbrev pub list_line : Listed → ListLine
list_line l = record { view = l.view.def.name; method = l.computed.used; holds = length l.computed.rows }

-- One line for each view, in the order of the list.
abbrev pub list_lines : List View → List Listed → List ListLine
list_lines views done = filter_map (λ v. option_map list_line (find (λ l. l.view.def.view == v.def.view) done)) views

-- REFRESHED LIST with the SCN of the begin.
abbrev pub list_installed : State → Catalog → List View → List Listed → Step
list_installed s c views done =
    replied (with_catalog s (all_refreshed done s.catalog))
    (reply.RefreshList (record { scn = c.scn; read = reads_so_far done; views = list_lines views done }))

-- Refused by what was computed; or because a view was dropped or moved since, name by name; or installed.
abbrev pub install_views : State → Catalog → List View → Result (List Listed) (ℕ × Refusal) → Step
install_views s c views (Err p) = refused s p.0 p.1
install_views s c views (Ok done) = option_case (first_of (moved_refusal s.catalog) views) (list_installed s c views done) (refused s (reads_so_far done))

-- Refused by the names, having read nothing, or computed over the image of the begin and installed.
abbrev pub install_over : State → RefreshView → Catalog → Step
install_over s r c = option_case (names_refusal c r) (install_views s c (views_named c r) (computed_list c r)) (refused s 0)

-- The install of a list: in a READ ONLY transaction it is refused before anything else.
abbrev pub install_list : State → Session → RefreshView → Step
install_list s x r =
    cond (only_reads x) (refused (ended s x) 0 OnlyReading)
    (option_case x.begun (refused s 0 (NoSuchObject r.name)) (λ b. install_over (ended s x) r b.image))

-- The install of one view, or of a list.
abbrev pub install_named : State → Session → RefreshView → Step
install_named s x r = cond (is_empty r.more) (install_refresh s x r) (install_list s x r)
