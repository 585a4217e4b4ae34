-- Words stored one by one: a slice keeps its length. Assumes nothing.
use native.Mathlib.Omega.{arith}
use lib.ListN.{length-set}

pub ruleset stores = (arith, length-set)
