-- A trace that is read for names.
use Rattle.std.proofs.Common.{◌≡◌, ◌∙◌, ◌++◌, ◌∷◌, [], Option, Some, None, List, ℕ, map, refl, string_bytes, sym, ap, subst}
use Rattle.std.specs.Prelude.{Result, Ok, Err, IfOk, OnOk}
use Rattle.entry_codec.specs.Entries.{Entry, Message, Drop}
use Rattle.trace_store.specs.Disk.{Image}
use Rattle.stores.specs.Events.{World}
use Rattle.stores.specs.FolderStore.{honest_of, reads_of}
use Rattle.command_line.specs.declared.request.Asked.{Asked}
use Rattle.trace_text.specs.Choosing.{asks_of}
use Rattle.trace_text.specs.declared.choice.Choice.{Choice}
use Rattle.trace_views.specs.Taking.{in_two_looks}
use Rattle.trace_views.proofs.TakenLemmas.{first_look, looks-append, second_look}
use Rattle.commands.specs.Commands.{IsFree}
use Rattle.commands.specs.Files.{OnlyLooks}
use Rattle.commands.specs.Sites.{IsAtPlace}
use Rattle.commands.specs.declared.files.Files.{Files}
use Rattle.commands.specs.Viewing.{HasSeen}
use Rattle.prepared_requests.specs.Names.{Holding, as_entries, choice_meant, holding_of, holdings_in, names_in}
use Rattle.prepared_requests.specs.NamesLooked.{AreLookedUp, AreSeenIn, IsNamed, IsSeen, WereLookedAt, looked_up, named}
use Rattle.prepared_requests.specs.declared.names_seen.NamesSeen.{NamesSeen}

-- ---- names as entries

name_of : Entry → List ℕ
name_of (Message bytes) = bytes
name_of (Drop count) = []

names_back : (names : List (List ℕ)) → map name_of (as_entries names) ≡ names
unfolding name_of
names_back [] = refl
names_back (name ∷ names) = ap (λ (l : List (List ℕ)). name ∷ l) (names_back names)

-- they are told by these entries
names_same : (one other : List (List ℕ)) → as_entries one ≡ as_entries other → one ≡ other
names_same one other same = sym (names_back one) ∙ ap (map name_of) same ∙ names_back other

-- who had seen these names alone has seen all entries then, and so much was told of these names
pub seen_so : (image : Image) (names asked : List (List ℕ)) (taken : List Entry) (known : List Holding) → HasSeen None image (in_two_looks (as_entries names) []) (in_two_looks (as_entries asked) taken) → known ≡ holdings_in asked taken → AreSeenIn names known image
seen_so image names asked taken known has told =
    let is : in_two_looks (as_entries asked) taken ≡ in_two_looks (as_entries names) has.0 = has.1 ∙ sym (looks-append (as_entries names) [] has.0) in
    let same : asked ≡ names = names_same asked names (first_look (as_entries asked) (as_entries names) taken has.0 is) in
    let all : taken ≡ has.0 = second_look (as_entries asked) (as_entries names) taken has.0 is in
    (has.0, has.2, told ∙ ap (λ (l : List (List ℕ)). holdings_in l taken) same ∙ ap (holdings_in names) all)

-- what a view of names has seen
abbrev pub of_view : NamesSeen → List Entry
of_view view = in_two_looks (as_entries (map (λ s. string_bytes s) view.asked.items)) view.taken.entries

-- and of files that were made for that
pub looked_so : {E : Type 0} (world : World) (asked : Asked) (old new : Files) (names : List (List ℕ)) (result : Result (Option NamesSeen) E) → IsFree world old → IsAtPlace asked old → OnlyLooks old.store new.store → (honest_of new.store → IfOk result (λ seen. IsSeen names seen (reads_of old.store)))
    → IfOk result (λ seen. WereLookedAt world asked (IsSeen names seen))
looked_so world asked old new names (Ok seen) free place looks told = record { old = old; new = new; free = free; place = place; only_reads = looks; told = told }
looked_so world asked old new names (Err fault) free place looks told = tt

-- the names of a choice were looked up so
pub named_so : {E : Type 0} (world : World) (asked : Asked) (old new : Choice) (names : List (List ℕ)) (seen : NamesSeen) (result : Result Unit E) → names ≡ names_in (asks_of old) → WereLookedAt world asked (IsSeen names (Some seen)) → OnOk result (asks_of new ≡ choice_meant (map holding_of seen.holders.items) (asks_of old))
    → OnOk result (AreLookedUp world asked old new)
named_so world asked old new names seen (Ok done) same were meant =
    let known = map holding_of seen.holders.items in
    looked_up new known (subst (λ (l : List (List ℕ)). WereLookedAt world asked (AreSeenIn l known)) same were) meant
named_so world asked old new names seen (Err fault) same were meant = tt

-- there may be no choice
pub any_so : {E : Type 0} (world : World) (asked : Asked) (before : Option Choice) (old new : Choice) (result : Result Unit E) → before ≡ Some old → OnOk result (AreLookedUp world asked old new) → OnOk result (IsNamed world asked before (Some new))
any_so world asked before old new (Ok done) is looked = subst (λ (c : Option Choice). IsNamed world asked c (Some new)) (sym is) (named old new looked)
any_so world asked before old new (Err fault) is looked = tt
