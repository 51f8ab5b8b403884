pub mod FourthLemmas
