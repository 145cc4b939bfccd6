-- The keys of ORDER BY, one after another.
use Rattle.std.proofs.Common.{◌≡◌, ◌∙◌, sym, refl, ℕ, ◌+◌, ◌<◌, ◌≤◌, true, false, List, length, drop, get_or}
use Rattle.std.specs.Ordering.{is_eq, ordering_then}
use Rattle.std.specs.declared.cmp.Ordering.{Ordering}
use Rattle.std.specs.declared.cmp.Ordering.TheVariants.{Less, Equal, Greater}
use Rattle.std.proofs.Math.ListN.{drop_of_length-le}
use Rattle.std.proofs.lemmas.List.{drop_more}
use Rattle.wh_base.specs.declared.queries.OrderKey.{OrderKey}
use Rattle.wh_base.specs.declared.values.Value.{Value}
use Rattle.def_meaning.specs.Meaning.{order_cmp}
use Rattle.wh_group.specs.Entries.{key_cmp}

decides : (o p : Ordering) → is_eq o ≡ false → ordering_then o p ≡ o
decides Less p h = refl
decides Equal p h = cc
decides Greater p h = refl

leaves : (o p : Ordering) → is_eq o ≡ true → ordering_then o p ≡ p
leaves Less p h = cc
leaves Equal p h = refl
leaves Greater p h = cc

keys_at : (ks : List OrderKey) (a b : List Value) (at : ℕ) (d : OrderKey) → at < length ks → order_cmp (drop at ks) a b ≡ ordering_then (key_cmp (get_or ks at d) a b) (order_cmp (drop (at + 1) ks) a b)
keys_at ks a b at d h = rw (drop_more ks at d h) refl

pub key-decides : (ks : List OrderKey) (a b : List Value) (at : ℕ) (d : OrderKey) → at < length ks → is_eq (key_cmp (get_or ks at d) a b) ≡ false → order_cmp (drop at ks) a b ≡ key_cmp (get_or ks at d) a b
key-decides ks a b at d h e = keys_at ks a b at d h ∙ decides (key_cmp (get_or ks at d) a b) (order_cmp (drop (at + 1) ks) a b) e

pub key-leaves : (ks : List OrderKey) (a b : List Value) (at : ℕ) (d : OrderKey) → at < length ks → is_eq (key_cmp (get_or ks at d) a b) ≡ true → order_cmp (drop (at + 1) ks) a b ≡ order_cmp (drop at ks) a b
key-leaves ks a b at d h e = sym (keys_at ks a b at d h ∙ leaves (key_cmp (get_or ks at d) a b) (order_cmp (drop (at + 1) ks) a b) e)

pub keys-end : (ks : List OrderKey) (a b : List Value) (at : ℕ) → length ks ≤ at → order_cmp (drop at ks) a b ≡ Equal
keys-end ks a b at h = rw (drop_of_length-le ks h) refl

pub ruleset turns = (key-decides, key-leaves, keys-end)
