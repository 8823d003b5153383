pub mod SevenArcs
