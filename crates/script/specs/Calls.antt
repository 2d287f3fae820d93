-- The calls that records ask for.
use Rattle.std.specs.Prelude.{◌≡◌, ℕ, true, false, List, Result, MatchResult}
use Rattle.trees.specs.Calls as calls
use Rattle.script.specs.declared.record.Call.{Call}
use Rattle.script.specs.declared.record.Call.TheVariants as asks
use Rattle.script.specs.declared.record.Unfit.{Unfit}
use Rattle.script.specs.Records.{record_of, fit_record, call_of, own_row}

-- the theory's call; a patch lends a path row of its own
abbrev pub asked : Call → calls.Call
asked (asks.Leaf slot tag value) = calls.new_leaf slot tag value
asked (asks.Node slot code name index) = calls.new_node slot code name.now index
asked (asks.Insert p second name) = calls.insert p.slot p.path.items second name.now
asked (asks.Push p second) = calls.push p.slot p.path.items second
asked (asks.PutAt p second index) = calls.put_at p.slot p.path.items second index
asked (asks.RemoveAt p second index) = calls.remove_at p.slot p.path.items second index
asked (asks.SetVariant p code name index) = calls.set_variant p.slot p.path.items code name.now index
asked (asks.Copy from to) = calls.copy from to
asked (asks.DropTree slot) = calls.drop_tree slot
asked (asks.Apply target patch) = calls.lay target patch own_row
asked (asks.ApplyWhole target patch) = calls.lay_whole target patch own_row
asked (asks.Equal first second) = calls.ask_equal first second
asked (asks.Compare first second) = calls.ask_compare first second
asked (asks.Hash slot) = calls.ask_hash slot
asked (asks.IndexOf p name) = calls.index_of p.slot p.path.items name.now

-- what 80 bytes are read as: the call of a record that is fit, or nothing
abbrev pub Reads : List ℕ → Result Call Unfit → Type 0
Reads bytes res = MatchResult res
    (λ c. (fit_record (record_of bytes) ≡ true) × (asked c ≡ call_of (record_of bytes)))
    (λ _. fit_record (record_of bytes) ≡ false)
