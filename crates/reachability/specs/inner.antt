pub mod Reachability
